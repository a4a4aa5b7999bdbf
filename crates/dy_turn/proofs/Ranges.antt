-- Ranges of indices, and how often an index stands in a list.
use Rattle.std.proofs.Common.{◌≡◌, ℕ, ◌+◌, ◌<◌, ◌≤◌, Bool, true, false, if◌then◌else◌, List, [], ◌∷◌, ◌++◌, refl, ap, arith}
use Rattle.std.specs.Prelude.{nat_lt}
use Rattle.std.proofs.lemmas.Bool.Decides.{nat_tests}
use Rattle.dy_turn.specs.Indices.{one_if_same, one_if_between, times, with_index, union_of}

pub one_if_between-none : (a k : ℕ) → one_if_between a a k ≡ 0
one_if_between-none a k = grind (arith, nat_tests)

pub one_if_between-in : (a b k : ℕ) → a ≤ k → k < b → one_if_between a b k ≡ 1
one_if_between-in a b k from to = grind (arith, nat_tests)

pub one_if_between-beyond : (a b k : ℕ) → b ≤ k → one_if_between a b k ≡ 0
one_if_between-beyond a b k to = grind (arith, nat_tests)

-- where it is not 0, the index lies in the range
pub one_if_between-some : (a b k : ℕ) → 0 < one_if_between a b k → (a ≤ k) × (k < b)
one_if_between-some a b k some = (grind (arith, nat_tests), grind (arith, nat_tests))

pub one_if_between-next : (a b k : ℕ) → a ≤ b → one_if_between a (b + 1) k ≡ one_if_between a b k + one_if_same b k
one_if_between-next a b k le = grind (arith, nat_tests)

pub one_if_between-rest : (a b k : ℕ) → a < b → one_if_between (a + 1) b k + one_if_same a k ≡ one_if_between a b k
one_if_between-rest a b k le = grind (arith, nat_tests)

-- the first index of a range leaves it
pub leaves_range : (first from to k now was : ℕ) → from ≡ first → first < to → now + one_if_same first k ≡ was → was ≡ one_if_between from to k → now ≡ one_if_between (first + 1) to k
leaves_range first from to k now was is some step sum =
    let rest = one_if_between-rest first to k some in
    let e : one_if_between from to k ≡ one_if_between first to k = ap (λ n. one_if_between n to k) is in
    omega arith

-- the index after a range enters it
pub enters_range : (from to last k now was : ℕ) → to ≡ last → from ≤ last → now ≡ was + one_if_same last k → was ≡ one_if_between from to k → now ≡ one_if_between from (last + 1) k
enters_range from to last k now was is some step sum =
    let next = one_if_between-next from last k some in
    let e : one_if_between from to k ≡ one_if_between from last k = ap (λ n. one_if_between from n k) is in
    omega arith

-- below both ends, the ends do not matter
pub one_if_between-same : (a b c k : ℕ) → k < b → k < c → one_if_between a b k ≡ one_if_between a c k
one_if_between-same a b c k h i = grind (arith, nat_tests)

pub times-push : (k x : ℕ) (xs : List ℕ) → times k (xs ++ x ∷ []) ≡ times k xs + one_if_same x k
times-push k x [] = omega arith
times-push k x (y ∷ ys) = omega (arith, times-push k x ys)

pub times-with_index : (k x : ℕ) (xs : List ℕ) → times k (with_index x xs) ≡ one_if_same x k + times k xs
times-with_index k x [] = refl
times-with_index k x (y ∷ ys) = at (nat_lt y x) (times-with_index k x ys)
  where
    at : (b : Bool) → times k (with_index x ys) ≡ one_if_same x k + times k ys
        → times k (if b then y ∷ with_index x ys else x ∷ y ∷ ys) ≡ one_if_same x k + times k (y ∷ ys)
    at true r = omega arith
    at false r = refl

pub times-union_of : (k : ℕ) (xs ys : List ℕ) → times k (union_of xs ys) ≡ times k xs + times k ys
times-union_of k [] ys = omega arith
times-union_of k (x ∷ xs) ys = omega (arith, times-with_index k x (union_of xs ys), times-union_of k xs ys)

pub one_if_between-most : (a b k : ℕ) → one_if_between a b k ≤ 1
one_if_between-most a b k = grind (arith, nat_tests)
