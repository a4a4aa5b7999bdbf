use Rattle.dy_chains.specs.MirrorFiring.{AreTried}
use Rattle.dy_chains.proofs.firing.try_from.Given as goal

abbrev pub invariant-loop-number : goal.invariant-loop-number
invariant-loop-number l = AreTried l.rules l.initial.log l.log l.first l.number
