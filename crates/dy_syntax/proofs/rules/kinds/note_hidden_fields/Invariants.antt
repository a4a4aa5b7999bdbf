use Rattle.std.proofs.Common.{◌≡◌, true, map, drop}
use Rattle.dy_syntax.specs.Meaning.{field_of}
use Rattle.dy_syntax.specs.MirrorMeaning.{least_of}
use Rattle.dy_syntax.specs.MirrorFaults.{note_lines}
use Rattle.dy_syntax.specs.Rules.Kinds.{lines_of_hidden_fields}
use Rattle.dy_syntax.proofs.rules.kinds.note_hidden_fields.Given as goal

-- those so far are noted
abbrev pub invariant-loop-field : goal.invariant-loop-field
invariant-loop-field l =
    note_lines 8 (lines_of_hidden_fields true (map field_of (drop l.field-index l.fields))) (least_of l.least)
    ≡ note_lines 8 (lines_of_hidden_fields true (map field_of l.fields)) (least_of l.initial.least)
