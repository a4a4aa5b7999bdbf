use Rattle.std.proofs.Common.{◌≡◌, map, drop}
use Rattle.dy_syntax.specs.Meaning.{id_of}
use Rattle.dy_parse.specs.Mirrors.Limits.{meet_all, met_of}
use Rattle.dy_parse.proofs.limits.principals.meet_ids.Given as goal

-- those so far are met
abbrev pub invariant-loop-id : goal.invariant-loop-id
invariant-loop-id l =
    meet_all (map id_of (drop l.id-index l.ids)) (met_of l.met) ≡ meet_all (map id_of l.ids) (met_of l.initial.met)
