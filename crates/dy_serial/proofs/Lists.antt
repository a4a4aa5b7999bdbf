-- What stands in two lists, one after the other.
use Rattle.std.proofs.Common.{◌≡◌, ℕ, zero, suc, ◌+◌, ◌<◌, Bool, true, false, List, [], ◌∷◌, ◌++◌, length, Option, Some, None, ◌⊎◌, inl, inr, refl, arith}
use Rattle.std.specs.Prelude.{IsSome}
use Rattle.std.specs.Option.{option_or}
use Rattle.std.specs.List.{slice_get}

-- what stands in either of two lists
pub in_either : {A : Type 0} (xs ys : List A) (i : ℕ) (x : A) → slice_get (xs ++ ys) i ≡ Some x
    → (slice_get xs i ≡ Some x) ⊎ ((j : ℕ) × (i ≡ length xs + j) × (slice_get ys j ≡ Some x))
in_either [] ys i x at = inr (i, omega arith, at)
in_either (y ∷ xs) ys zero x at = inl at
in_either (y ∷ xs) ys (suc i) x at = elim (in_either xs ys i x at) [
  | inl first ↦ inl first
  | inr second ↦ inr (second.0, (let is = second.1 in omega (arith, is)), second.2)
]

pub in_single : {A : Type 0} (y : A) (i : ℕ) (x : A) → slice_get (y ∷ []) i ≡ Some x → (i ≡ 0) × (x ≡ y)
in_single y zero x at = (refl, cc)
in_single y (suc i) x at = absurd cc

pub is_false : (b : Bool) → (b ≡ true → ⊥) → b ≡ false
is_false true not = absurd (not refl)
is_false false not = refl

pub is_some_from : (o : Option ℕ) → (o ≡ None → ⊥) → IsSome o
is_some_from None not = absurd (not refl)
is_some_from (Some x) not = refl

pub some_or : (o p : Option ℕ) → IsSome o → IsSome (option_or o p)
some_or None p some = absurd cc
some_or (Some x) p some = refl

pub below_next : (x n : ℕ) → x < suc n → (x < n) ⊎ (x ≡ n)
below_next zero zero below = inr refl
below_next zero (suc n) below = inl (omega arith)
below_next (suc x) zero below = absurd (omega (arith, below))
below_next (suc x) (suc n) below = elim (below_next x n (omega (arith, below))) [
  | inl less ↦ inl (omega (arith, less))
  | inr same ↦ inr (let is = same in omega (arith, is))
]
