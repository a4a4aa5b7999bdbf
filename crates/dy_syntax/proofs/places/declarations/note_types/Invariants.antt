use Rattle.std.proofs.Common.{◌≡◌, map, drop}
use Rattle.std.specs.List.{flat_map}
use Rattle.dy_syntax.specs.Meaning.{field_of, file_of}
use Rattle.dy_syntax.specs.MirrorMeaning.{least_of, scope_of}
use Rattle.dy_syntax.specs.MirrorFaults.{note_parts}
use Rattle.dy_syntax.specs.Parts as parts
use Rattle.dy_syntax.proofs.places.declarations.note_types.Given as goal

-- those so far are noted
abbrev pub invariant-loop-field : goal.invariant-loop-field
invariant-loop-field l =
    note_parts (file_of l.file) (scope_of l.scope) (flat_map (λ f. parts.parts_of_type f.kind) (map field_of (drop l.field-index l.fields))) (least_of l.least)
    ≡ note_parts (file_of l.file) (scope_of l.scope) (flat_map (λ f. parts.parts_of_type f.kind) (map field_of l.fields)) (least_of l.initial.least)
