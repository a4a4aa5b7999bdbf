use Rattle.std.proofs.Common.{sym, ◌∙◌, arith}
use Rattle.dy_syntax.specs.Meaning.{expr_of}
use Rattle.dy_syntax.specs.MirrorMeaning.{least_of}
use Rattle.dy_syntax.specs.Parts.{parts_of_expr}
use Rattle.dy_syntax.proofs.Noted.{parts_more}
use Rattle.dy_syntax.proofs.parts.statements.note_all_exprs.Goals as goal

pub loop-expr-preserved : goal.loop-expr-preserved
loop-expr-preserved c =
    rw c.note_expr.ensures
    (sym (parts_more parts_of_expr expr_of _ _ c.args.exprs.now c.loop-expr.expr-index c.expr-item.result (least_of c.loop-expr.least) (omega arith) c.expr-item.is) ∙ c.loop-expr.invariant)
