use Rattle.std.proofs.Common.{◌≡◌}
use Rattle.std.specs.List.{slice_get}
use Rattle.dy_plan.proofs.Rounds.{steps_left}
use Rattle.dy_plan.proofs.steps.numbered_step.Given as goal

-- the step of the number stands at this place of those that are left
abbrev pub invariant-loop-round : goal.invariant-loop-round
invariant-loop-round l = slice_get (steps_left l.plan.rounds l.round-index) l.place ≡ slice_get (steps_left l.plan.rounds 0) l.number
