use Rattle.std.proofs.Common.{◌-◌}
use Rattle.dy_chains.specs.MirrorFiring.{IsDone}
use Rattle.dy_chains.proofs.firing.saturate.Given as goal

abbrev pub invariant-loop-done : goal.invariant-loop-done
invariant-loop-done l = IsDone l.rules l.initial.log l.log l.done

abbrev pub decreases-loop-done : goal.decreases-loop-done
decreases-loop-done l = l.log.facts - l.done
