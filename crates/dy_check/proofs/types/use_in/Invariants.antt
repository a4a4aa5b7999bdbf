use Rattle.std.proofs.Common.{◌≡◌, map, take}
use Rattle.std.specs.List.{filter_map}
use Rattle.dy_syntax.specs.Meaning.{nm_of}
use Rattle.dy_check.specs.MirrorNames.{numbers_of}
use Rattle.dy_check.proofs.types.use_in.Given as goal

abbrev pub invariant-loop-arg : goal.invariant-loop-arg
invariant-loop-arg l = l.args ≡ filter_map (numbers_of l.naming) (map nm_of (take l.arg-index l.arg-items))
