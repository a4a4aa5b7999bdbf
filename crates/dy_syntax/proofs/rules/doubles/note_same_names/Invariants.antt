use Rattle.std.proofs.Common.{◌≡◌, map, drop}
use Rattle.dy_syntax.specs.Meaning.{id_of}
use Rattle.dy_syntax.specs.MirrorMeaning.{least_of}
use Rattle.dy_syntax.specs.MirrorFaults.{note_lines}
use Rattle.dy_syntax.specs.Rules.Doubles.{lines_of_same_names}
use Rattle.dy_syntax.proofs.rules.doubles.note_same_names.Given as goal

-- those so far are noted
abbrev pub invariant-loop-i : goal.invariant-loop-i
invariant-loop-i l =
    note_lines l.number (lines_of_same_names (map id_of (drop l.i l.ids))) (least_of l.least)
    ≡ note_lines l.number (lines_of_same_names (map id_of l.ids)) (least_of l.initial.least)
