use Rattle.std.proofs.Common.{◌≡◌, map, drop}
use Rattle.std.specs.List.{flat_map}
use Rattle.dy_parse.specs.Mirrors.Limits.{count_all}
use Rattle.dy_parse.proofs.limits.members.count_each.Given as goal

-- those so far are counted
abbrev pub invariant-loop-part : goal.invariant-loop-part
invariant-loop-part g l =
    let part = g.T.Counted in
    count_all (flat_map part.lines (map part.of (drop l.part-index l.parts))) l.count
    ≡ count_all (flat_map part.lines (map part.of l.parts)) l.initial.count
