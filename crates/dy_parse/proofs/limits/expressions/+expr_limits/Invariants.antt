use Rattle.std.proofs.Common.{◌≡◌, map, drop}
use Rattle.std.specs.List.{flat_map}
use Rattle.dy_syntax.specs.Meaning.{expr_of}
use Rattle.dy_parse.specs.Limits.{expr_within}
use Rattle.dy_parse.specs.Mirrors.Limits.{first_of, note_all}
use Rattle.dy_parse.proofs.limits.expressions.+expr_limits.Given as goal

-- those so far are noted
abbrev pub invariant-note_row-loop-expr : goal.invariant-note_row-loop-expr
invariant-note_row-loop-expr l =
    note_all (flat_map (expr_within l.room) (map expr_of (drop l.expr-index l.exprs))) (first_of l.first)
    ≡ note_all (flat_map (expr_within l.room) (map expr_of l.exprs)) (first_of l.initial.first)
