use Rattle.std.proofs.Common.{◌≡◌, [], drop, map}
use Rattle.dy_recipe.specs.Values as values
use Rattle.dy_recipe.specs.Meaning.{move_of}
use Rattle.dy_recipe.proofs.applying.move_values.Given as goal

-- All moves have the values that those not passed have after the values that were made.
abbrev pub invariant-loop-step : goal.invariant-loop-step
invariant-loop-step g l =
    let leaves = g.G.Given.leaves l.given in
    values.move_values leaves [] (map move_of l.moves) ≡ values.move_values leaves l.made.items (map move_of (drop l.step-index l.moves))
