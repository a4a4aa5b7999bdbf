use Rattle.std.proofs.Common.{◌≡◌, map, drop, ◌++◌}
use Rattle.std.specs.List.{filter_map}
use Rattle.dy_syntax.specs.Meaning.{nm_of}
use Rattle.dy_eval.specs.Names.{principal_for}
use Rattle.dy_eval.specs.NamesMeaning.{names_of}
use Rattle.dy_eval.proofs.names.Names.principals_for.Given as goal

-- the principals of those so far, and then those of the others
abbrev pub invariant-loop-name : goal.invariant-loop-name
invariant-loop-name l =
    l.made ++ filter_map (principal_for (names_of l.self)) (map nm_of (drop l.name-index l.names)) ≡ filter_map (principal_for (names_of l.self)) (map nm_of l.names)
