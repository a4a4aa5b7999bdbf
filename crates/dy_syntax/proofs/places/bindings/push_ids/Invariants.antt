use Rattle.std.proofs.Common.{◌≡◌, ◌++◌, map, drop}
use Rattle.dy_syntax.specs.Meaning.{id_of}
use Rattle.dy_syntax.proofs.places.bindings.push_ids.Given as goal

-- those so far and those of the rest are all
abbrev pub invariant-loop-id : goal.invariant-loop-id
invariant-loop-id l = map id_of l.ids ++ map id_of (drop l.id-index l.more) ≡ map id_of l.initial.ids ++ map id_of l.more
