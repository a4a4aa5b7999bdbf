use Rattle.std.proofs.Common.{◌≡◌, map, drop}
use Rattle.std.specs.List.{flat_map}
use Rattle.dy_parse.specs.Mirrors.Limits.{first_of, note_all}
use Rattle.dy_parse.proofs.limits.members.note_each.Given as goal

-- those so far are noted
abbrev pub invariant-loop-part : goal.invariant-loop-part
invariant-loop-part g l =
    let part = g.T.Noted in
    note_all (flat_map part.excess (map part.whole (drop l.part-index l.parts))) (first_of l.first)
    ≡ note_all (flat_map part.excess (map part.whole l.parts)) (first_of l.initial.first)
