use Rattle.std.proofs.Common.{◌≡◌, map, take}
use Rattle.dy_syntax.specs.Meaning.{expr_of}
use Rattle.dy_eval.proofs.copying.+expr_copy.Given as goal

-- those so far are copied
abbrev pub invariant-exprs_copy-loop-expr : goal.invariant-exprs_copy-loop-expr
invariant-exprs_copy-loop-expr l = map expr_of l.made.items ≡ map expr_of (take l.expr-index l.exprs)
