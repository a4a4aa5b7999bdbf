use Rattle.std.proofs.Common.{sym, ◌∙◌, arith}
use Rattle.dy_show.specs.MirrorPages.{tokens_of}
use Rattle.dy_show.proofs.Writing.{all_more}
use Rattle.dy_show.proofs.lists.all.Goals as goal

pub loop-item-preserved : goal.loop-item-preserved
loop-item-preserved g c =
    let part = g.T.Shown in
    rw c.in_ok-write.ensures
    (sym (all_more (tokens_of part.item) part.view c.args.items.now c.loop-item.item-index c.item-item.result c.loop-item.page (omega arith) c.item-item.is)
    ∙ c.loop-item.invariant)
