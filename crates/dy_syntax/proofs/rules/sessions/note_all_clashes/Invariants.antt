use Rattle.std.proofs.Common.{◌≡◌, map, drop}
use Rattle.dy_syntax.specs.MirrorMeaning.{least_of, sessions_of}
use Rattle.dy_syntax.specs.MirrorFaults.{note_lines}
use Rattle.dy_syntax.specs.Rules.Plans.{lines_of_same_session}
use Rattle.dy_syntax.proofs.rules.sessions.note_all_clashes.Given as goal

-- those so far are noted
abbrev pub invariant-loop-i : goal.invariant-loop-i
invariant-loop-i l =
    note_lines 11 (lines_of_same_session (map sessions_of (drop l.i l.all))) (least_of l.least)
    ≡ note_lines 11 (lines_of_same_session (map sessions_of l.all)) (least_of l.initial.least)
