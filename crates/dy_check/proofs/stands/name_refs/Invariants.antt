use Rattle.std.proofs.Common.{◌≡◌, map, take}
use Rattle.dy_syntax.specs.Meaning.{nm_of}
use Rattle.dy_check.specs.Meaning.{nm_ref_of}
use Rattle.dy_check.proofs.stands.name_refs.Given as goal

abbrev pub invariant-loop-name : goal.invariant-loop-name
invariant-loop-name l = map nm_ref_of l.refs ≡ map nm_of (take l.name-index l.names)
