use Rattle.std.proofs.Common.{◌≡◌, map, drop}
use Rattle.std.specs.List.{flat_map}
use Rattle.dy_syntax.specs.Meaning.{expr_of, file_of}
use Rattle.dy_syntax.specs.MirrorMeaning.{least_of, scope_of}
use Rattle.dy_syntax.specs.MirrorFaults.{note_parts}
use Rattle.dy_syntax.specs.Parts.{parts_of_expr}
use Rattle.dy_syntax.proofs.parts.statements.note_all_exprs.Given as goal

-- those so far are noted
abbrev pub invariant-loop-expr : goal.invariant-loop-expr
invariant-loop-expr l =
    note_parts (file_of l.file) (scope_of l.scope) (flat_map parts_of_expr (map expr_of (drop l.expr-index l.exprs))) (least_of l.least)
    ≡ note_parts (file_of l.file) (scope_of l.scope) (flat_map parts_of_expr (map expr_of l.exprs)) (least_of l.initial.least)
