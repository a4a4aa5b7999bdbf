use Rattle.std.proofs.Common.{◌≡◌, map, drop}
use Rattle.std.specs.List.{flat_map}
use Rattle.dy_syntax.specs.Meaning.{step_of, file_of}
use Rattle.dy_syntax.specs.MirrorMeaning.{least_of, scope_of}
use Rattle.dy_syntax.specs.MirrorFaults.{note_parts}
use Rattle.dy_syntax.specs.Places.{parts_of_action}
use Rattle.dy_syntax.proofs.places.plans.note_actions.Given as goal

-- those so far are noted
abbrev pub invariant-loop-step : goal.invariant-loop-step
invariant-loop-step l =
    note_parts (file_of l.file) (scope_of l.scope) (flat_map (λ s. parts_of_action l.round s.action) (map step_of (drop l.step-index l.steps))) (least_of l.least)
    ≡ note_parts (file_of l.file) (scope_of l.scope) (flat_map (λ s. parts_of_action l.round s.action) (map step_of l.steps)) (least_of l.initial.least)
