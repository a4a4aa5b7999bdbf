use Rattle.std.proofs.Common.{◌≡◌, map, length}
use Rattle.dy_recipe.specs.Meaning.{move_of}
use Rattle.dy_plan.specs.Recipes.{with_move}
use Rattle.dy_plan.specs.MirrorRecipes.{paired}
use Rattle.dy_plan.proofs.recipes.pair_up.Given as goal

-- what is left to pair gives what all would
abbrev pub invariant-loop-left : goal.invariant-loop-left
invariant-loop-left l =
    paired l.lefts (with_move (map move_of l.moves) (move_of l.step))
    ≡ paired l.initial.lefts (with_move (map move_of l.initial.moves) (move_of l.initial.step))

abbrev pub decreases-loop-left : goal.decreases-loop-left
decreases-loop-left l = length l.lefts
