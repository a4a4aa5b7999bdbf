use Rattle.std.proofs.Common.{◌≡◌, map, take}
use Rattle.dy_syntax.specs.Meaning.{expr_of}
use Rattle.dy_syntax.specs.SameFiles.{bare_expr}
use Rattle.dy_syntax.proofs.sameness.expressions.+same_expr.Given as goal

-- those so far are the same
abbrev pub invariant-same_exprs-loop-i : goal.invariant-same_exprs-loop-i
invariant-same_exprs-loop-i l =
    map bare_expr (map expr_of (take l.i l.exprs.items)) ≡ map bare_expr (map expr_of (take l.i l.others.items))
