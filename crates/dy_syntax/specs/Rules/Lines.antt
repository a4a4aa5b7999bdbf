-- Lines at which a rule is broken.
use Rattle.std.specs.Prelude.{ℕ, Bool, true, false, List, [], ◌∷◌, ◌++◌, map, filter, Option, None, Some}

-- this line, where the rule is broken
abbrev pub lines_if : Bool → ℕ → List ℕ
lines_if true line = line ∷ []
lines_if false line = []

-- this line, where there is none
abbrev pub lines_if_none : {X : Type 0} → Option X → ℕ → List ℕ
lines_if_none None line = line ∷ []
lines_if_none (Some x) line = []

-- the lines of those that stand again after one that is the same
abbrev pub lines_of_repeated : {X : Type 0} → (X → X → Bool) → (X → ℕ) → List X → List ℕ
lines_of_repeated same line [] = []
lines_of_repeated same line (x ∷ more) = map line (filter (same x) more) ++ lines_of_repeated same line more

-- the lines of each two that stand side by side
abbrev pub lines_of_pairs : {X Y : Type 0} → (X → Y → List ℕ) → List X → List Y → List ℕ
lines_of_pairs lines [] ys = []
lines_of_pairs lines (x ∷ xs) [] = []
lines_of_pairs lines (x ∷ xs) (y ∷ ys) = lines x y ++ lines_of_pairs lines xs ys
