use Rattle.std.proofs.Common.{◌≡◌, map, drop}
use Rattle.std.specs.List.{flat_map}
use Rattle.dy_syntax.specs.MirrorMeaning.{least_of, sessions_of}
use Rattle.dy_syntax.specs.MirrorFaults.{note_lines}
use Rattle.dy_syntax.specs.Rules.Plans.{lines_of_clash}
use Rattle.dy_syntax.proofs.rules.sessions.note_clashes.Given as goal

-- those so far are noted
abbrev pub invariant-loop-other : goal.invariant-loop-other
invariant-loop-other l =
    note_lines 11 (flat_map (lines_of_clash (sessions_of l.earlier)) (map sessions_of (drop l.other-index l.later))) (least_of l.least)
    ≡ note_lines 11 (flat_map (lines_of_clash (sessions_of l.earlier)) (map sessions_of l.later)) (least_of l.initial.least)
