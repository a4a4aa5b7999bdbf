use Rattle.std.proofs.Common.{◌≡◌, map, take}
use Rattle.dy_syntax.specs.Meaning.{nm_of}
use Rattle.dy_know.proofs.copying.names_copy.Given as goal

-- those so far are copied
abbrev pub invariant-loop-name : goal.invariant-loop-name
invariant-loop-name l = map nm_of l.made ≡ map nm_of (take l.name-index l.names)
