use Rattle.std.proofs.Common.{◌≡◌, map, filter, drop}
use Rattle.dy_syntax.specs.Meaning.{row_of}
use Rattle.dy_syntax.specs.MirrorMeaning.{least_of}
use Rattle.dy_syntax.specs.MirrorFaults.{note_lines}
use Rattle.dy_syntax.specs.Rules.Doubles.{same_text}
use Rattle.dy_syntax.proofs.rules.doubles.note_same_text.Given as goal

-- those so far are noted
abbrev pub invariant-loop-other : goal.invariant-loop-other
invariant-loop-other l =
    note_lines 1 (map (λ r. r.text.line) (filter (same_text (row_of l.row)) (map row_of (drop l.other-index l.more)))) (least_of l.least)
    ≡ note_lines 1 (map (λ r. r.text.line) (filter (same_text (row_of l.row)) (map row_of l.more))) (least_of l.initial.least)
