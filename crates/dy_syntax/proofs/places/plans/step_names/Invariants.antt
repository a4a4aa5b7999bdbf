use Rattle.std.proofs.Common.{◌≡◌, ◌++◌, map, drop}
use Rattle.std.specs.List.{flat_map}
use Rattle.dy_syntax.specs.Meaning.{id_of, round_of}
use Rattle.dy_syntax.proofs.places.plans.step_names.Given as goal

-- those so far and those of the rest are all
abbrev pub invariant-loop-round : goal.invariant-loop-round
invariant-loop-round l =
    map id_of l.ids ++ flat_map (λ r. map (λ s. s.name) r.steps) (map round_of (drop l.round-index l.rounds))
    ≡ flat_map (λ r. map (λ s. s.name) r.steps) (map round_of l.rounds)
