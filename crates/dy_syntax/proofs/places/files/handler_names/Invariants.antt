use Rattle.std.proofs.Common.{◌≡◌, ◌++◌, map, drop}
use Rattle.std.specs.List.{flat_map}
use Rattle.dy_syntax.specs.Meaning.{id_of, decl_of}
use Rattle.dy_syntax.specs.Places.{handler_names_in}
use Rattle.dy_syntax.proofs.places.files.handler_names.Given as goal

-- those so far and those of the rest are all
abbrev pub invariant-loop-decl : goal.invariant-loop-decl
invariant-loop-decl l = map id_of l.ids ++ flat_map handler_names_in (map decl_of (drop l.decl-index l.decls)) ≡ flat_map handler_names_in (map decl_of l.decls)
