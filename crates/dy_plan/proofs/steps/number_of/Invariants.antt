use Rattle.std.proofs.Common.{◌≡◌, ◌+◌, length}
use Rattle.std.specs.Option.{option_map}
use Rattle.std.specs.List.{position}
use Rattle.std.specs.Str.{bytes_eq}
use Rattle.dy_plan.proofs.Rounds.{steps_left}
use Rattle.dy_plan.proofs.steps.number_of.Given as goal

-- So many steps, and those that are left, are all. The first of the name is among those that are left.
abbrev pub invariant-loop-round : goal.invariant-loop-round
invariant-loop-round l =
    (l.before + length (steps_left l.plan.rounds l.round-index) ≡ length (steps_left l.plan.rounds 0))
    × (position (λ step. bytes_eq step.name.word l.name) (steps_left l.plan.rounds 0)
    ≡ option_map (λ k. l.before + k) (position (λ step. bytes_eq step.name.word l.name) (steps_left l.plan.rounds l.round-index)))
