use Rattle.std.proofs.Common.{◌≡◌, map, drop}
use Rattle.std.specs.List.{flat_map}
use Rattle.dy_syntax.specs.Meaning.{pattern_of, file_of}
use Rattle.dy_syntax.specs.MirrorMeaning.{least_of, scope_of}
use Rattle.dy_syntax.specs.MirrorFaults.{note_parts}
use Rattle.dy_syntax.specs.Parts.{parts_of_pattern}
use Rattle.dy_syntax.proofs.parts.statements.note_all_compared.Given as goal

-- those so far are noted
abbrev pub invariant-loop-pattern : goal.invariant-loop-pattern
invariant-loop-pattern l =
    note_parts (file_of l.file) (scope_of l.scope) (flat_map parts_of_pattern (map pattern_of (drop l.pattern-index l.pats))) (least_of l.least)
    ≡ note_parts (file_of l.file) (scope_of l.scope) (flat_map parts_of_pattern (map pattern_of l.pats)) (least_of l.initial.least)
