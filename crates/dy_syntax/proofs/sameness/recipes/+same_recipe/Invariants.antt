use Rattle.std.proofs.Common.{◌≡◌, map, take}
use Rattle.dy_syntax.specs.Meaning.{recipe_of}
use Rattle.dy_syntax.specs.SameFiles.{bare_recipe}
use Rattle.dy_syntax.proofs.sameness.recipes.+same_recipe.Given as goal

-- those so far are the same
abbrev pub invariant-same_recipes-loop-i : goal.invariant-same_recipes-loop-i
invariant-same_recipes-loop-i l =
    map bare_recipe (map recipe_of (take l.i l.recipes.items)) ≡ map bare_recipe (map recipe_of (take l.i l.others.items))
