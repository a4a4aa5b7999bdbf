use Rattle.std.proofs.Common.{◌≡◌, map, take}
use Rattle.dy_syntax.specs.Meaning.{pattern_of}
use Rattle.dy_typing.specs.Names.{patterns_names}
use Rattle.dy_check.specs.Meaning.{places_of}
use Rattle.dy_check.proofs.stands.pattern_places.Given as goal

abbrev pub invariant-loop-pat : goal.invariant-loop-pat
invariant-loop-pat l = places_of l.places ≡ patterns_names (map pattern_of (take l.pat-index l.pats))
