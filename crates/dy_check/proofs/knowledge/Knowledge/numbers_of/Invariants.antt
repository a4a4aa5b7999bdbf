use Rattle.std.proofs.Common.{◌≡◌, ◌++◌, ℕ, map, drop, List}
use Rattle.std.specs.Option.{option_map}
use Rattle.dy_typing.specs.Names.{each_or_none, number_in}
use Rattle.dy_check.specs.Meaning.{nm_ref_of}
use Rattle.dy_check.proofs.knowledge.Knowledge.numbers_of.Given as goal

-- those found so far, with those still to be found, are all
abbrev pub invariant-loop-name : goal.invariant-loop-name
invariant-loop-name l =
    option_map (λ (rest : List ℕ). l.numbers ++ rest)
    (each_or_none (number_in l.self.words) (map nm_ref_of (drop l.name-index l.names)))
    ≡ each_or_none (number_in l.self.words) (map nm_ref_of l.names)
