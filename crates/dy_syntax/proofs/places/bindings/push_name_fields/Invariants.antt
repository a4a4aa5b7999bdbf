use Rattle.std.proofs.Common.{◌≡◌, ◌++◌, map, drop}
use Rattle.dy_syntax.specs.Meaning.{id_of, field_of}
use Rattle.dy_syntax.specs.Scopes as scopes
use Rattle.dy_syntax.proofs.places.bindings.push_name_fields.Given as goal

-- those so far and those of the rest are all
abbrev pub invariant-loop-field : goal.invariant-loop-field
invariant-loop-field l = map id_of l.ids ++ scopes.name_fields (map field_of (drop l.field-index l.fields)) ≡ map id_of l.initial.ids ++ scopes.name_fields (map field_of l.fields)
