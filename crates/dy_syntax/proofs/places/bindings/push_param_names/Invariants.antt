use Rattle.std.proofs.Common.{◌≡◌, ◌++◌, map, drop}
use Rattle.dy_syntax.specs.Meaning.{id_of, param_of}
use Rattle.dy_syntax.specs.Scopes as scopes
use Rattle.dy_syntax.proofs.places.bindings.push_param_names.Given as goal

-- those so far and those of the rest are all
abbrev pub invariant-loop-param : goal.invariant-loop-param
invariant-loop-param l = map id_of l.ids ++ scopes.param_names (map param_of (drop l.param-index l.params)) ≡ map id_of l.initial.ids ++ scopes.param_names (map param_of l.params)
