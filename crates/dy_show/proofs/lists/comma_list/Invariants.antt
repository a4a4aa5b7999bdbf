use Rattle.std.proofs.Common.{◌≡◌, map, drop}
use Rattle.dy_show.specs.Canonical as c
use Rattle.dy_show.specs.MirrorPages.{put_all, tokens_of, rest_of}
use Rattle.dy_show.proofs.lists.comma_list.Given as goal

-- the items that are left, written on what there is, give all
abbrev pub invariant-loop-item : goal.invariant-loop-item
invariant-loop-item g l =
    let part = g.T.Shown in
    put_all l.page (rest_of l.is_first (c.mark l.end) (tokens_of part.item) (map part.view (drop l.item-index l.items)))
    ≡ put_all l.initial.page (c.comma_list (c.mark l.end) (tokens_of part.item) (map part.view l.items))
