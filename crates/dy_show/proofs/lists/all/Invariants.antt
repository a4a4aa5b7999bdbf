use Rattle.std.proofs.Common.{◌≡◌, map, drop}
use Rattle.std.specs.List.{flat_map}
use Rattle.dy_show.specs.MirrorPages.{put_all, tokens_of}
use Rattle.dy_show.proofs.lists.all.Given as goal

-- the items that are left, written on what there is, give all
abbrev pub invariant-loop-item : goal.invariant-loop-item
invariant-loop-item g l =
    let part = g.T.Shown in
    put_all l.page (flat_map (tokens_of part.item) (map part.view (drop l.item-index l.items)))
    ≡ put_all l.initial.page (flat_map (tokens_of part.item) (map part.view l.items))
