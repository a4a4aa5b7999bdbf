-- Lists of indices that rise.
use Rattle.std.proofs.Common.{◌≡◌, ℕ, ◌+◌, ◌<◌, ◌≤◌, Bool, true, false, if◌then◌else◌, List, [], ◌∷◌, ◌++◌, refl, arith, lt_of_not-le}
use Rattle.std.specs.Prelude.{nat_lt}
use Rattle.std.proofs.lemmas.Bool.{and_from, and_parts}
use Rattle.std.proofs.lemmas.Bool.Decides.{nat_tests}
use native.Mathlib.Decide.{dec_le}
use Rattle.dy_turn.specs.Indices.{one_if_same, times, is_below, is_rising, with_index, union_of}
use Rattle.dy_turn.proofs.Ranges.{times-union_of}

once_same : (x : ℕ) → one_if_same x x ≡ 1
once_same x = grind (arith, nat_tests)

lt_from_test : (x y : ℕ) → nat_lt x y ≡ true → x < y
lt_from_test x y test = grind (arith, nat_tests)

test_from_lt : (x y : ℕ) → x < y → nat_lt x y ≡ true
test_from_lt x y less = grind (arith, nat_tests)

lt_from_other : (x y : ℕ) → nat_lt y x ≡ false → one_if_same y x ≡ 0 → x < y
lt_from_other x y test other = grind (arith, nat_tests)

-- an index beyond the list put at its end
pub is_rising-push : (xs : List ℕ) (n : ℕ) → is_rising xs ≡ true → ((k : ℕ) → n ≤ k → times k xs ≡ 0) → is_rising (xs ++ n ∷ []) ≡ true
is_rising-push [] n rising beyond = refl
is_rising-push (x ∷ []) n rising beyond = and_from (nat_lt x n) true (test_from_lt x n (below (dec_le n x))) refl
  where
    below : Dec (n ≤ x) → x < n
    below (yes far) = absurd (omega (arith, beyond x far, once_same x))
    below (no near) = lt_of_not-le near
is_rising-push (x ∷ y ∷ ys) n rising beyond =
    let parts = and_parts (nat_lt x y) (is_rising (y ∷ ys)) rising in
    and_from (nat_lt x y) (is_rising (y ∷ (ys ++ n ∷ []))) parts.0 (is_rising-push (y ∷ ys) n parts.1 (λ k far. omega (arith, beyond k far)))

is_below-with_index : (y x : ℕ) (ys : List ℕ) → nat_lt y x ≡ true → is_below y ys ≡ true → is_below y (with_index x ys) ≡ true
is_below-with_index y x [] less below = less
is_below-with_index y x (z ∷ zs) less below = at (nat_lt z x)
  where
    at : (b : Bool) → is_below y (if b then z ∷ with_index x zs else x ∷ z ∷ zs) ≡ true
    at true = below
    at false = less

is_rising-with_index : (x : ℕ) (xs : List ℕ) → is_rising xs ≡ true → times x xs ≡ 0 → is_rising (with_index x xs) ≡ true
is_rising-with_index x [] rising absent = refl
is_rising-with_index x (y ∷ ys) rising absent = at (nat_lt y x) refl (is_rising-with_index x ys parts.1 (omega (arith, absent)))
  where
    parts : (is_below y ys ≡ true) × (is_rising ys ≡ true)
    parts = and_parts (is_below y ys) (is_rising ys) rising

    at : (b : Bool) → nat_lt y x ≡ b → is_rising (with_index x ys) ≡ true → is_rising (if b then y ∷ with_index x ys else x ∷ y ∷ ys) ≡ true
    at true less rest = and_from (is_below y (with_index x ys)) (is_rising (with_index x ys)) (is_below-with_index y x ys less parts.0) rest
    at false more rest = and_from (nat_lt x y) (is_rising (y ∷ ys)) (test_from_lt x y (lt_from_other x y more (omega (arith, absent)))) rising

-- two lists that have no index in common
pub is_rising-union_of : (xs ys : List ℕ) → is_rising xs ≡ true → is_rising ys ≡ true → ((k : ℕ) → times k xs + times k ys ≤ 1) → is_rising (union_of xs ys) ≡ true
is_rising-union_of [] ys rising rising' apart = rising'
is_rising-union_of (x ∷ xs) ys rising rising' apart =
    let parts = and_parts (is_below x xs) (is_rising xs) rising in
    is_rising-with_index x (union_of xs ys) (is_rising-union_of xs ys parts.1 rising' (λ k. omega (arith, apart k))) (omega (arith, times-union_of x xs ys, apart x, once_same x))
