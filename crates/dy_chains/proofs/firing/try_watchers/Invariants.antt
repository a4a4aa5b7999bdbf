use Rattle.dy_chains.specs.MirrorFiring.{IsWalked}
use Rattle.dy_chains.proofs.Watching.{places_left}
use Rattle.dy_chains.proofs.firing.try_watchers.Given as goal

abbrev pub invariant-loop-next : goal.invariant-loop-next
invariant-loop-next l = IsWalked l.rules l.watchers l.fact l.initial.log l.log l.next

abbrev pub decreases-loop-next : goal.decreases-loop-next
decreases-loop-next l = places_left l.next
