use Rattle.std.proofs.Common.{◌≡◌, map, take}
use Rattle.dy_flat.specs.Views.{tree_of}
use Rattle.dy_syntax.specs.Meaning.{nm_of}
use Rattle.dy_eval.specs.Names.{bytes_for}
use Rattle.dy_eval.specs.NamesMeaning.{names_of}
use Rattle.dy_eval.proofs.names.Names.bytes_for_all.Given as goal

-- the bytes of those so far
abbrev pub invariant-loop-name : goal.invariant-loop-name
invariant-loop-name l = map tree_of l.made.items ≡ map (bytes_for (names_of l.self)) (map nm_of (take l.name-index l.names))
