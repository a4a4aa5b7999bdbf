use Rattle.std.proofs.Common.{◌≡◌, map, drop}
use Rattle.std.specs.List.{flat_map}
use Rattle.dy_parse.specs.Mirrors.Limits.{meet_all, met_of}
use Rattle.dy_parse.proofs.limits.principals.meet_each.Given as goal

-- those so far are met
abbrev pub invariant-loop-part : goal.invariant-loop-part
invariant-loop-part g l =
    let part = g.T.Names in
    meet_all (flat_map part.named (map part.of (drop l.part-index l.parts))) (met_of l.met)
    ≡ meet_all (flat_map part.named (map part.of l.parts)) (met_of l.initial.met)
