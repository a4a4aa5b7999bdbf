use Rattle.dy_syntax.proofs.SameParts.{args_same, args_other}
use Rattle.dy_syntax.proofs.sameness.expressions.+same_expr.Goals as goal

pub same_args-returns-clause-same : goal.same_args-returns-clause-same
same_args-returns-clause-same t c is_same = args_same c.args.tuple.now c.args.other.now (c.same_exprs.ensures.same is_same)

pub same_args-returns-clause-other : goal.same_args-returns-clause-other
same_args-returns-clause-other t c is_other = args_other c.args.tuple.now c.args.other.now (c.same_exprs.ensures.other is_other)
