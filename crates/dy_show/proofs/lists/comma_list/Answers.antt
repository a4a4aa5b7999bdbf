use Rattle.std.proofs.Common.{sym, ◌∙◌, arith}
use Rattle.dy_show.specs.Canonical.{mark}
use Rattle.dy_show.specs.MirrorPages.{tokens_of}
use Rattle.dy_show.proofs.Writing.{listed_more, listed_done}
use Rattle.dy_show.proofs.lists.comma_list.Goals as goal

pub loop-item-preserved : goal.loop-item-preserved
loop-item-preserved g c =
    let part = g.T.Shown in
    rw (c.in_ok-write.ensures, c.in_ok-separate.ensures)
    (sym (listed_more (mark c.args.end.now) (tokens_of part.item) part.view c.loop-item.is_first c.args.items.now c.loop-item.item-index c.item-item.result c.loop-item.page (omega arith) c.item-item.is)
    ∙ c.loop-item.invariant)

pub returns : goal.returns
returns g c =
    let part = g.T.Shown in
    rw c.in_ok-mark.ensures
    (listed_done (mark c.args.end.now) (tokens_of part.item) part.view c.loop-item.is_first c.args.items.now c.loop-item.item-index c.loop-item.page _ (omega arith) c.loop-item.invariant)
