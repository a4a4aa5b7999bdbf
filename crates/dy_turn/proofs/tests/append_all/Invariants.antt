use Rattle.dy_turn.specs.Seats.{IsOf, IsFree}
use Rattle.dy_turn.proofs.tests.append_all.Given as goal

abbrev pub invariant-loop-item : goal.invariant-loop-item
invariant-loop-item g l = IsOf l.turn l.seat × IsFree l.seat
