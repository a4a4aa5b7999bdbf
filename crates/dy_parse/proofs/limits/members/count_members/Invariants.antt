use Rattle.std.proofs.Common.{◌≡◌, map, drop}
use Rattle.dy_parse.specs.Mirrors.Limits.{count_all}
use Rattle.dy_parse.proofs.limits.members.count_members.Given as goal

-- those so far are counted
abbrev pub invariant-loop-member : goal.invariant-loop-member
invariant-loop-member g l =
    let part = g.T.Placed in
    count_all (map part.place (map part.plain (drop l.member-index l.members))) l.count
    ≡ count_all (map part.place (map part.plain l.members)) l.initial.count
