-- What stands in lists and in longer lists.
use Rattle.std.proofs.Common.{◌≡◌, ℕ, zero, suc, ◌<◌, ◌≤◌, List, [], ◌∷◌, ◌++◌, length, take, Contains, Option, Some, None, ◌⊎◌, inl, inr, refl, ap, ◌∙◌, arith}
use Rattle.std.specs.Option.{option_and_then}
use Rattle.std.specs.List.{slice_get}
use Rattle.std.proofs.lemmas.List.Elements.{Contains-append_right, Contains-push_cases, Contains-append_cases}

pub Contains-none : {A : Type 0} (x : A) → Contains [] x → ⊥
Contains-none x h = let below : h.0 < 0 = h.1 in omega arith

pub Contains-first : {A : Type 0} (x : A) (xs : List A) → Contains (x ∷ xs) x
Contains-first x xs = (0, omega arith, refl)

pub Contains-later : {A : Type 0} (x : A) (xs : List A) (y : A) → Contains xs y → Contains (x ∷ xs) y
Contains-later x xs y h = Contains-append_right (x ∷ []) xs y h

-- What is in a list is its first element or in the rest.
pub Contains-cases : {A : Type 0} (x : A) (xs : List A) (y : A) → Contains (x ∷ xs) y → (x ≡ y) ⊎ Contains xs y
Contains-cases x xs y h = elim (Contains-append_cases (x ∷ []) xs y h) [
  | inl alone ↦ elim (Contains-push_cases [] x y alone) [ inl none ↦ absurd (Contains-none y none) | inr is ↦ inl is ]
  | inr later ↦ inr later
]

-- what stands has an index below the length
pub below_length : {A : Type 0} (xs : List A) (k : ℕ) (x : A) → slice_get xs k ≡ Some x → k < length xs
below_length [] k x at = absurd cc
below_length (y ∷ ys) zero x at = omega arith
below_length (y ∷ ys) (suc k) x at = let rest = below_length ys k x at in omega (arith, rest)

-- what stands in a list stands in a longer one
pub in_longer : {A : Type 0} (xs ys : List A) (k : ℕ) (x : A) → slice_get xs k ≡ Some x → slice_get (xs ++ ys) k ≡ Some x
in_longer [] ys k x at = absurd cc
in_longer (z ∷ zs) ys zero x at = at
in_longer (z ∷ zs) ys (suc k) x at = in_longer zs ys k x at

-- the last element
pub in_last : {A : Type 0} (xs : List A) (x : A) → slice_get (xs ++ x ∷ []) (length xs) ≡ Some x
in_last [] x = refl
in_last (y ∷ ys) x = in_last ys x

-- each index is one of the shorter list, or that of the last element
pub in_more : {A : Type 0} (xs : List A) (y : A) (k : ℕ) (x : A) → slice_get (xs ++ y ∷ []) k ≡ Some x → (slice_get xs k ≡ Some x) ⊎ ((k ≡ length xs) × (y ≡ x))
in_more [] y zero x at = inr (refl, cc)
in_more [] y (suc k) x at = absurd cc
in_more (z ∷ zs) y zero x at = inl at
in_more (z ∷ zs) y (suc k) x at = elim (in_more zs y k x at) [
  | inl old ↦ inl old
  | inr last ↦ inr (ap suc last.0, last.1)
]

-- a prefix of a longer list
pub take_before : {A : Type 0} (xs ys : List A) (k : ℕ) → k ≤ length xs → take k (xs ++ ys) ≡ take k xs
take_before xs ys zero within = refl
take_before [] ys (suc k) within = absurd (omega (arith, within))
take_before (x ∷ xs) ys (suc k) within = ap (λ zs. x ∷ zs) (take_before xs ys k (omega (arith, within)))

-- the prefix that another list stands after
pub take_whole : {A : Type 0} (xs ys : List A) → take (length xs) (xs ++ ys) ≡ xs
take_whole [] ys = refl
take_whole (x ∷ xs) ys = ap (λ zs. x ∷ zs) (take_whole xs ys)

-- What comes of a value comes of it where it stands too.
pub and_then_still : {A B : Type 0} (f : A → Option B) (first second : Option A) (y : B)
    → ((x : A) → first ≡ Some x → second ≡ Some x) → option_and_then f first ≡ Some y → option_and_then f second ≡ Some y
and_then_still f None second y stays h = absurd cc
and_then_still f (Some x) second y stays h = ap (option_and_then f) (stays x refl) ∙ h
