use Rattle.std.proofs.Common.{◌≡◌, map, drop}
use Rattle.std.specs.List.{flat_map}
use Rattle.dy_syntax.specs.Meaning.{expr_of, file_of}
use Rattle.dy_syntax.specs.MirrorMeaning.{least_of, scope_of}
use Rattle.dy_syntax.specs.MirrorFaults.{note_parts}
use Rattle.dy_syntax.specs.Parts.{parts_of_expr}
use Rattle.dy_syntax.proofs.parts.expressions.+note_expr.Given as goal

-- those so far are noted
abbrev pub invariant-note_tuple-loop-arg : goal.invariant-note_tuple-loop-arg
invariant-note_tuple-loop-arg l =
    note_parts (file_of l.file) (scope_of l.scope) (flat_map parts_of_expr (map expr_of (drop l.arg-index l.arg-items))) (least_of l.least)
    ≡ note_parts (file_of l.file) (scope_of l.scope) (flat_map parts_of_expr (map expr_of l.arg-items)) (least_of l.initial.least)
