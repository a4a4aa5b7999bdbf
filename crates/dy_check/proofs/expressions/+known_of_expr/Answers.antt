use Rattle.std.proofs.Common.{map, arith}
use Rattle.std.proofs.lemmas.List.{take_all}
use Rattle.dy_syntax.specs.Meaning.{decl_of, expr_of}
use Rattle.dy_typing.specs.Expressions.{known_of_expr}
use Rattle.dy_check.proofs.Rows.{knowns_of_args}
use Rattle.dy_check.proofs.expressions.+known_of_expr.Goals as goal

pub known_of_expr-returns-in_ok-second-in-Pair : goal.known_of_expr-returns-in_ok-second-in-Pair
known_of_expr-returns-in_ok-second-in-Pair t c = λ k h.
    let decls = map decl_of c.args.cases.now in
    let first = rw c.deref.ensures at c.in_ok-first-in-Pair.ensures in
    let second = rw c.deref-in-Pair.ensures at c.in_ok-second-in-Pair.ensures in
    rw c.in-Pair.is
    (c.two_together.ensures (known_of_expr decls k (expr_of c.in-Pair.first.value)) (known_of_expr decls k (expr_of c.in-Pair.second.value)) (first k h) (second k h))

pub known_of_tuple-returns : goal.known_of_tuple-returns
known_of_tuple-returns t c = λ k h.
    let items = c.deref-arg-items.result.now in
    let all = c.loop-arg.invariant k h in
    rw (knowns_of_args (map decl_of c.args.cases.now) k c.args.tuple.now, ← c.deref-arg-items.ensures.value)
    (rw (take_all c.loop-arg.arg-index items (omega arith)) at all)
