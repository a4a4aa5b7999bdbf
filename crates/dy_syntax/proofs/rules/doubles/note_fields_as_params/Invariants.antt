use Rattle.std.proofs.Common.{◌≡◌, map, drop}
use Rattle.dy_syntax.specs.Meaning.{id_of, field_of}
use Rattle.dy_syntax.specs.MirrorMeaning.{least_of}
use Rattle.dy_syntax.specs.MirrorFaults.{note_lines}
use Rattle.dy_syntax.specs.Scopes.{words_of, field_names}
use Rattle.dy_syntax.specs.Rules.Doubles.{lines_of_ids_among}
use Rattle.dy_syntax.proofs.rules.doubles.note_fields_as_params.Given as goal

-- those so far are noted
abbrev pub invariant-loop-field : goal.invariant-loop-field
invariant-loop-field l =
    note_lines 5 (lines_of_ids_among (words_of (map id_of l.params)) (field_names (map field_of (drop l.field-index l.fields)))) (least_of l.least)
    ≡ note_lines 5 (lines_of_ids_among (words_of (map id_of l.params)) (field_names (map field_of l.fields))) (least_of l.initial.least)
