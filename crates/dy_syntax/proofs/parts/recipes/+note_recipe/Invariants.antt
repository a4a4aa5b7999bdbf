use Rattle.std.proofs.Common.{◌≡◌, map, drop}
use Rattle.std.specs.List.{flat_map}
use Rattle.dy_syntax.specs.Meaning.{recipe_of, file_of}
use Rattle.dy_syntax.specs.MirrorMeaning.{least_of, scope_of}
use Rattle.dy_syntax.specs.MirrorFaults.{note_parts}
use Rattle.dy_syntax.specs.Parts.{parts_of_recipe}
use Rattle.dy_syntax.proofs.parts.recipes.+note_recipe.Given as goal

-- those so far are noted
abbrev pub invariant-note_recipes-loop-recipe : goal.invariant-note_recipes-loop-recipe
invariant-note_recipes-loop-recipe l =
    note_parts (file_of l.file) (scope_of l.scope) (flat_map (parts_of_recipe l.round) (map recipe_of (drop l.recipe-index l.recipe-items))) (least_of l.least)
    ≡ note_parts (file_of l.file) (scope_of l.scope) (flat_map (parts_of_recipe l.round) (map recipe_of l.recipe-items)) (least_of l.initial.least)
