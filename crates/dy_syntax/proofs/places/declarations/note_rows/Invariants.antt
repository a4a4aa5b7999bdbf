use Rattle.std.proofs.Common.{◌≡◌, map, drop}
use Rattle.dy_syntax.specs.Meaning.{row_of, usage_of, file_of}
use Rattle.dy_syntax.specs.MirrorMeaning.{least_of, scope_of}
use Rattle.dy_syntax.specs.MirrorFaults.{note_parts}
use Rattle.dy_syntax.specs.Parts as parts
use Rattle.dy_syntax.proofs.places.declarations.note_rows.Given as goal

-- those so far are noted
abbrev pub invariant-loop-row : goal.invariant-loop-row
invariant-loop-row l =
    note_parts (file_of l.file) (scope_of l.scope) (map (parts.OfRow (usage_of l.usage)) (map row_of (drop l.row-index l.rows))) (least_of l.least)
    ≡ note_parts (file_of l.file) (scope_of l.scope) (map (parts.OfRow (usage_of l.usage)) (map row_of l.rows)) (least_of l.initial.least)
