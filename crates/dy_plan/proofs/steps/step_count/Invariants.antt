use Rattle.std.proofs.Common.{◌≡◌, ◌+◌, length}
use Rattle.dy_plan.proofs.Rounds.{steps_left}
use Rattle.dy_plan.proofs.steps.step_count.Given as goal

-- so many steps, and those that are left, are all
abbrev pub invariant-loop-round : goal.invariant-loop-round
invariant-loop-round l = l.count + length (steps_left l.plan.rounds l.round-index) ≡ length (steps_left l.plan.rounds 0)
