use Rattle.std.proofs.Common.{◌≡◌, ◌++◌, map, drop, List}
use Rattle.std.specs.Option.{option_map}
use Rattle.dy_syntax.specs.Names.{Nm}
use Rattle.dy_syntax.specs.Meaning.{nm_of}
use Rattle.dy_typing.specs.Names as typing
use Rattle.dy_typing.specs.Names.{each_or_none}
use Rattle.dy_check.specs.Meaning.{nm_ref_of, stands_of}
use Rattle.dy_check.proofs.stands.atom_names.Given as goal

-- those found so far, with those still to be found, are all
abbrev pub invariant-loop-arg : goal.invariant-loop-arg
invariant-loop-arg l =
    option_map (λ (rest : List Nm). map nm_ref_of l.names ++ rest)
    (each_or_none (typing.stands_for (stands_of l.stands)) (map nm_of (drop l.arg-index l.arg-items)))
    ≡ each_or_none (typing.stands_for (stands_of l.stands)) (map nm_of l.arg-items)
