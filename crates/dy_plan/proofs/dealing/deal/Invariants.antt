use Rattle.std.proofs.Common.{◌≡◌}
use Rattle.dy_plan.specs.Dealing.{places_of_worker}
use Rattle.dy_plan.proofs.dealing.deal.Given as goal

abbrev pub invariant-loop-place : goal.invariant-loop-place
invariant-loop-place l = l.places.items ≡ places_of_worker l.workers l.worker l.place
