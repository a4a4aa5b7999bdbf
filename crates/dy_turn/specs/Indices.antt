-- Indices of items in a history, and lists of such.
use Rattle.std.specs.Prelude.{ℕ, ◌+◌, Bool, true, ◌&&◌, ◌==◌, nat_lt, nat_le, List, [], ◌∷◌, if◌then◌else◌}

-- 1 where they are the same, and else 0
abbrev pub one_if_same : ℕ → ℕ → ℕ
one_if_same x y = if x == y then 1 else 0

-- 1 where the index is at least `from` and below `to`, and else 0
abbrev pub one_if_between : ℕ → ℕ → ℕ → ℕ
one_if_between from to index = if nat_le from index && nat_lt index to then 1 else 0

-- how often the index stands in the list
abbrev pub times : ℕ → List ℕ → ℕ
times index [] = 0
times index (x ∷ xs) = one_if_same x index + times index xs

-- the index is below the first of the list, if there is one
abbrev pub is_below : ℕ → List ℕ → Bool
is_below index [] = true
is_below index (x ∷ xs) = nat_lt index x

-- each index of the list is below the next
abbrev pub is_rising : List ℕ → Bool
is_rising [] = true
is_rising (x ∷ xs) = is_below x xs && is_rising xs

-- the rising list with one index more
abbrev pub with_index : ℕ → List ℕ → List ℕ
with_index index [] = index ∷ []
with_index index (x ∷ xs) = if nat_lt x index then x ∷ with_index index xs else index ∷ x ∷ xs

-- both rising lists as one
abbrev pub union_of : List ℕ → List ℕ → List ℕ
union_of [] ys = ys
union_of (x ∷ xs) ys = with_index x (union_of xs ys)
