use Rattle.std.proofs.Common.{◌≡◌, ◌++◌, map, drop}
use Rattle.dy_syntax.specs.Meaning.{id_of, step_of}
use Rattle.dy_syntax.proofs.places.plans.push_step_names.Given as goal

-- those so far and those of the rest are all
abbrev pub invariant-loop-step : goal.invariant-loop-step
invariant-loop-step l =
    map id_of l.ids ++ map (λ s. s.name) (map step_of (drop l.step-index l.steps)) ≡ map id_of l.initial.ids ++ map (λ s. s.name) (map step_of l.steps)
