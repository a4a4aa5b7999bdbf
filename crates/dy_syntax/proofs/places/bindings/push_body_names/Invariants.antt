use Rattle.std.proofs.Common.{◌≡◌, ◌++◌, map, drop}
use Rattle.std.specs.List.{flat_map}
use Rattle.dy_syntax.specs.Meaning.{id_of, statement_of}
use Rattle.dy_syntax.specs.Scopes as scopes
use Rattle.dy_syntax.proofs.places.bindings.push_body_names.Given as goal

-- those so far and those of the rest are all
abbrev pub invariant-loop-statement : goal.invariant-loop-statement
invariant-loop-statement l = map id_of l.ids ++ flat_map (λ s. flat_map scopes.pattern_names (scopes.act_pats s.act)) (map statement_of (drop l.statement-index l.body)) ≡ map id_of l.initial.ids ++ flat_map (λ s. flat_map scopes.pattern_names (scopes.act_pats s.act)) (map statement_of l.body)
