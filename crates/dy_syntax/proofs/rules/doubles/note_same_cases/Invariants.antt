use Rattle.std.proofs.Common.{◌≡◌, map, drop}
use Rattle.std.specs.List.{flat_map}
use Rattle.dy_syntax.specs.Meaning.{decl_of}
use Rattle.dy_syntax.specs.MirrorMeaning.{least_of}
use Rattle.dy_syntax.specs.MirrorFaults.{note_lines}
use Rattle.dy_syntax.specs.Places.{cases_in}
use Rattle.dy_syntax.specs.Rules.Doubles.{lines_of_same_cases}
use Rattle.dy_syntax.proofs.rules.doubles.note_same_cases.Given as goal

-- those so far are noted
abbrev pub invariant-loop-i : goal.invariant-loop-i
invariant-loop-i l =
    note_lines 1 (lines_of_same_cases (flat_map cases_in (map decl_of (drop l.i l.decls)))) (least_of l.least)
    ≡ note_lines 1 (lines_of_same_cases (flat_map cases_in (map decl_of l.decls))) (least_of l.initial.least)
