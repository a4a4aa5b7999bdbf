use Rattle.std.proofs.Common.{sym, ◌∙◌, arith}
use Rattle.dy_parse.specs.Mirrors.Limits.{meet_all, met_of}
use Rattle.dy_parse.proofs.LimitLaws.Folds.{fold_more, meet_all_append}
use Rattle.dy_parse.proofs.limits.principals.meet_each.Goals as goal

pub loop-part-preserved : goal.loop-part-preserved
loop-part-preserved g c =
    let part = g.T.Names in
    rw c.in_ok-meet.ensures
    (sym (fold_more meet_all meet_all_append part.named part.of c.args.parts.now c.loop-part.part-index c.part-item.result (met_of c.loop-part.met) (omega arith) c.part-item.is)
    ∙ c.loop-part.invariant)
