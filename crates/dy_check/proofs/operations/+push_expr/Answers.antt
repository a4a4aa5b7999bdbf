use Rattle.std.proofs.Common.{arith}
use Rattle.std.proofs.lemmas.List.{take_all}
use Rattle.dy_check.proofs.Rows.{operations_of_args}
use Rattle.dy_check.proofs.operations.+push_expr.Goals as goal

pub push_tuple-returns : goal.push_tuple-returns
push_tuple-returns t c =
    rw (operations_of_args c.args.tuple.now, ← c.deref-arg-items.ensures.value)
    (rw (take_all c.loop-arg.arg-index c.deref-arg-items.result.now (omega arith)) at c.loop-arg.invariant)
