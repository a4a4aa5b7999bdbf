use Rattle.std.proofs.Common.{◌≡◌, take}
use Rattle.dy_recipe.proofs.moves.Recipe.copy.Given as goal

-- the moves that were passed are copied
abbrev pub invariant-loop-step : goal.invariant-loop-step
invariant-loop-step l = l.moves ≡ take l.step-index l.step-items
