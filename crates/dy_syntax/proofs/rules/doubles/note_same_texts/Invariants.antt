use Rattle.std.proofs.Common.{◌≡◌, map, drop}
use Rattle.dy_syntax.specs.Meaning.{row_of}
use Rattle.dy_syntax.specs.MirrorMeaning.{least_of}
use Rattle.dy_syntax.specs.MirrorFaults.{note_lines}
use Rattle.dy_syntax.specs.Rules.Doubles.{lines_of_same_texts}
use Rattle.dy_syntax.proofs.rules.doubles.note_same_texts.Given as goal

-- those so far are noted
abbrev pub invariant-loop-i : goal.invariant-loop-i
invariant-loop-i l =
    note_lines 1 (lines_of_same_texts (map row_of (drop l.i l.rows))) (least_of l.least)
    ≡ note_lines 1 (lines_of_same_texts (map row_of l.rows)) (least_of l.initial.least)
