use Rattle.std.proofs.Common.{◌≡◌, map, take, Some}
use Rattle.dy_syntax.specs.Meaning.{nm_of}
use Rattle.dy_check.specs.Meaning.{places_of}
use Rattle.dy_check.proofs.stands.name_places.Given as goal

abbrev pub invariant-loop-name : goal.invariant-loop-name
invariant-loop-name l = places_of l.places ≡ map Some (map nm_of (take l.name-index l.names))
