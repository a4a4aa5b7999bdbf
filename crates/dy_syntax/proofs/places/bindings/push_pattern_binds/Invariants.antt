use Rattle.std.proofs.Common.{◌≡◌, ◌++◌, map, drop}
use Rattle.std.specs.List.{flat_map}
use Rattle.dy_syntax.specs.Meaning.{id_of, pattern_of}
use Rattle.dy_syntax.specs.Scopes as scopes
use Rattle.dy_syntax.proofs.places.bindings.push_pattern_binds.Given as goal

-- those so far and those of the rest are all
abbrev pub invariant-loop-pattern : goal.invariant-loop-pattern
invariant-loop-pattern l = map id_of l.ids ++ flat_map scopes.pattern_binds (map pattern_of (drop l.pattern-index l.pats)) ≡ map id_of l.initial.ids ++ flat_map scopes.pattern_binds (map pattern_of l.pats)
