-- What `find` gives.
use Rattle.std.proofs.Common.{◌≡◌, ap, ℕ, zero, suc, Bool, true, false, ◌||◌, Some, None, List, [], ◌∷◌, refl, inl, inr, arith}
use Rattle.std.specs.Prelude.{slice_get}
use Rattle.std.specs.List.{find, list_any}
use Rattle.std.proofs.lemmas.Bool.{cases_Bool}

pub find_none : {A : Type 0} (p : A → Bool) (xs : List A) → ((i : ℕ) (x : A) → slice_get xs i ≡ Some x → p x ≡ true → ⊥) → find p xs ≡ None
find_none p [] none = refl
find_none p (x ∷ xs) none = elim (cases_Bool (p x)) [
  | inl holds ↦ absurd (none 0 x refl holds)
  | inr fails ↦ rw fails (find_none p xs (λ i y at. none (suc i) y at))
]

pub find_only : {A : Type 0} (p : A → Bool) (xs : List A) (i : ℕ) (x : A) → slice_get xs i ≡ Some x → p x ≡ true
    → ((j : ℕ) (y : A) → slice_get xs j ≡ Some y → p y ≡ true → y ≡ x) → find p xs ≡ Some x
find_only p [] i x at holds only = absurd (grind arith)
find_only p (z ∷ xs) zero x at holds only = let e : z ≡ x = cc in rw (e, holds) refl
find_only p (z ∷ xs) (suc i) x at holds only = elim (cases_Bool (p z)) [
  | inl found ↦ rw found (ap Some (only 0 z refl found))
  | inr fails ↦ rw fails (find_only p xs i x at holds (λ j y there. only (suc j) y there))
]

pub none_passes : {A : Type 0} (p : A → Bool) (xs : List A) → ((i : ℕ) (x : A) → slice_get xs i ≡ Some x → p x ≡ false) → list_any p xs ≡ false
none_passes p [] none = refl
none_passes p (x ∷ xs) none = rw (none 0 x refl) (none_passes p xs (λ i y at. none (suc i) y at))

pub one_fails : {A : Type 0} (p : A → Bool) (xs : List A) (i : ℕ) (x : A) → list_any p xs ≡ false → slice_get xs i ≡ Some x → p x ≡ false
one_fails p [] i x none at = absurd (grind arith)
one_fails p (z ∷ xs) zero x none at = let e : z ≡ x = cc in rw (← e) (by_cases (p z) none) where
  by_cases : (b : Bool) → (b || list_any p xs) ≡ false → b ≡ false
  by_cases true h = h
  by_cases false h = refl
one_fails p (z ∷ xs) (suc i) x none at = one_fails p xs i x (by_cases (p z) none) at where
  by_cases : (b : Bool) → (b || list_any p xs) ≡ false → list_any p xs ≡ false
  by_cases true h = absurd (grind arith)
  by_cases false h = h
