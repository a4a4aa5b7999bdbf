use Rattle.std.proofs.Common.{◌≡◌, map, filter, drop}
use Rattle.std.specs.List.{flat_map}
use Rattle.dy_syntax.specs.Meaning.{case_of, decl_of}
use Rattle.dy_syntax.specs.MirrorMeaning.{least_of}
use Rattle.dy_syntax.specs.MirrorFaults.{note_lines}
use Rattle.dy_syntax.specs.Places.{cases_in}
use Rattle.dy_syntax.specs.Rules.Doubles.{same_case}
use Rattle.dy_syntax.proofs.rules.doubles.note_same_case.Given as goal

-- those so far are noted
abbrev pub invariant-loop-decl : goal.invariant-loop-decl
invariant-loop-decl l =
    note_lines 1 (map (λ c. c.tag.line) (filter (same_case (case_of l.case)) (flat_map cases_in (map decl_of (drop l.decl-index l.more))))) (least_of l.least)
    ≡ note_lines 1 (map (λ c. c.tag.line) (filter (same_case (case_of l.case)) (flat_map cases_in (map decl_of l.more)))) (least_of l.initial.least)
