-- How many nodes the first terms of a run take. It mirrors the code, which counts the parts that are due.
use Rattle.std.specs.Prelude.{ℕ, zero, suc, ◌+◌, List, [], ◌∷◌}

-- How many nodes so many terms take, by how many parts each node has, where the list does not end before.
abbrev pub span : ℕ → List ℕ → ℕ
span due [] = 0
span zero (parts ∷ more) = 0
span (suc due) (parts ∷ more) = 1 + span (due + parts) more
