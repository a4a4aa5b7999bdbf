use Rattle.std.proofs.Common.{sym, ◌∙◌, arith}
use Rattle.dy_parse.specs.Mirrors.Limits.{count_all}
use Rattle.dy_parse.proofs.LimitLaws.Folds.{fold_more, count_all_append}
use Rattle.dy_parse.proofs.limits.members.count_each.Goals as goal

pub loop-part-preserved : goal.loop-part-preserved
loop-part-preserved g c =
    let part = g.T.Counted in
    rw c.count-count.ensures
    (sym (fold_more count_all count_all_append part.lines part.of c.args.parts.now c.loop-part.part-index c.part-item.result c.loop-part.count (omega arith) c.part-item.is)
    ∙ c.loop-part.invariant)
