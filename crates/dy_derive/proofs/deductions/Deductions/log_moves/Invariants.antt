use Rattle.std.proofs.Common.{map}
use Rattle.dy_recipe.specs.Meaning.{move_of}
use Rattle.dy_derive.specs.MirrorRecipes.{AreLogMoves}
use Rattle.dy_derive.proofs.deductions.Deductions.log_moves.Given as goal

abbrev pub invariant-loop-step : goal.invariant-loop-step
invariant-loop-step l =
    AreLogMoves l.self.nodes.keys l.self.chain.chain.rules l.self.chain.reasons.items l.self.chain.chain.log l.step-index (map move_of l.moves.items)
