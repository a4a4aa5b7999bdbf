use Rattle.std.proofs.Common.{◌≡◌, ◌++◌, ℕ, map, drop, List}
use Rattle.std.specs.Option.{option_map}
use Rattle.dy_typing.specs.Names.{each_or_none}
use Rattle.dy_typing.specs.Knowledge.{value_of}
use Rattle.dy_check.specs.Meaning.{knowledge_of, nm_ref_of}
use Rattle.dy_check.proofs.knowledge.Knowledge.values_of.Given as goal

-- those found so far, with those still to be found, are all
abbrev pub invariant-loop-name : goal.invariant-loop-name
invariant-loop-name l =
    option_map (λ (rest : List ℕ). l.values ++ rest)
    (each_or_none (value_of (knowledge_of l.self)) (map nm_ref_of (drop l.name-index l.names)))
    ≡ each_or_none (value_of (knowledge_of l.self)) (map nm_ref_of l.names)
