-- What stands in a list that gains at its end, and where a test passes first.
use Rattle.std.proofs.Common.{◌≡◌, ℕ, zero, suc, ◌+◌, ◌<◌, Bool, true, false, List, [], ◌∷◌, ◌++◌, length, Option, Some, None, if◌then◌else◌, ◌⊎◌, inl, inr, refl, ap, sym, ◌∙◌, arith}
use Rattle.std.proofs.lemmas.Iterator.Adapters.{position_from-zero}
use Rattle.std.specs.List.{slice_get, position, position_from}

pub in_longer : {A : Type 0} (xs ys : List A) (k : ℕ) (x : A) → slice_get xs k ≡ Some x → slice_get (xs ++ ys) k ≡ Some x
in_longer [] ys k x e = absurd cc
in_longer (z ∷ xs) ys zero x e = e
in_longer (z ∷ xs) ys (suc k) x e = in_longer xs ys k x e

pub in_shorter : {A : Type 0} (xs ys : List A) (k : ℕ) (x : A) → k < length xs → slice_get (xs ++ ys) k ≡ Some x → slice_get xs k ≡ Some x
in_shorter [] ys k x within e = absurd (omega arith)
in_shorter (z ∷ xs) ys zero x within e = e
in_shorter (z ∷ xs) ys (suc k) x within e = in_shorter xs ys k x (omega arith) e

pub in_last : {A : Type 0} (xs : List A) (x : A) → slice_get (xs ++ x ∷ []) (length xs) ≡ Some x
in_last [] x = refl
in_last (z ∷ xs) x = in_last xs x

pub in_more : {A : Type 0} (xs : List A) (y : A) (k : ℕ) (x : A) → slice_get (xs ++ y ∷ []) k ≡ Some x → (slice_get xs k ≡ Some x) ⊎ ((k ≡ length xs) × (y ≡ x))
in_more [] y zero x e = inr (refl, cc)
in_more [] y (suc k) x e = absurd cc
in_more (z ∷ xs) y zero x e = inl e
in_more (z ∷ xs) y (suc k) x e = elim (in_more xs y k x e) [ inl before ↦ inl before | inr last ↦ inr (ap suc last.0, last.1) ]

-- what stands in two lists stands in the first or in the second
pub in_either : {A : Type 0} (xs ys : List A) (k : ℕ) (x : A) → slice_get (xs ++ ys) k ≡ Some x
    → (slice_get xs k ≡ Some x) ⊎ ((j : ℕ) × (k ≡ length xs + j) × (slice_get ys j ≡ Some x))
in_either [] ys k x e = inr (k, omega arith, e)
in_either (z ∷ xs) ys zero x e = inl e
in_either (z ∷ xs) ys (suc k) x e = elim (in_either xs ys k x e) [
  | inl before ↦ inl before
  | inr after ↦ let index = after.1 in inr (after.0, omega (arith, index), after.2)
]

module _ {A : Type 0} (test : A → Bool) where
  split_none : (b : Bool) (i : ℕ) (rest : Option ℕ) → (if b then Some i else rest) ≡ None → (b ≡ false) × (rest ≡ None)
  split_none true i rest none = absurd cc
  split_none false i rest none = (refl, none)

  from_none : (i : ℕ) (xs : List A) → position_from test i xs ≡ None → (k : ℕ) (x : A) → slice_get xs k ≡ Some x → test x ≡ false
  from_none i [] none k x at = absurd cc
  from_none i (y ∷ ys) none zero x at = let first = (split_none (test y) i (position_from test (i + 1) ys) none).0 in cc
  from_none i (y ∷ ys) none (suc k) x at = from_none (i + 1) ys (split_none (test y) i (position_from test (i + 1) ys) none).1 k x at

  from_all : (i : ℕ) (xs : List A) → ((k : ℕ) (x : A) → slice_get xs k ≡ Some x → test x ≡ false) → position_from test i xs ≡ None
  from_all i [] fails = refl
  from_all i (y ∷ ys) fails = ap (λ (b : Bool). if b then Some i else position_from test (i + 1) ys) (fails 0 y refl) ∙ from_all (i + 1) ys (λ k x at. fails (suc k) x at)

  split_some : (b : Bool) (i k : ℕ) (rest : Option ℕ) → (if b then Some i else rest) ≡ Some k → ((b ≡ true) × (i ≡ k)) ⊎ ((b ≡ false) × (rest ≡ Some k))
  split_some true i k rest some = inl (refl, cc)
  split_some false i k rest some = inr (refl, some)

  from_some : (i : ℕ) (xs : List A) (k : ℕ) → position_from test i xs ≡ Some k → (m : ℕ) × (x : A) × (k ≡ i + m) × (slice_get xs m ≡ Some x) × (test x ≡ true)
  from_some i [] k some = absurd cc
  from_some i (y ∷ ys) k some = elim (split_some (test y) i k (position_from test (i + 1) ys) some) [
    | inl here ↦ let same = here.1 in (0, y, omega (arith, same), refl, here.0)
    | inr later ↦
        let rest = from_some (i + 1) ys k later.1 in
        let index = rest.2 in
        (suc rest.0, rest.1, omega (arith, index), rest.3, rest.4)
  ]

  from_longer : (i : ℕ) (xs ys : List A) (k : ℕ) → position_from test i xs ≡ Some k → position_from test i (xs ++ ys) ≡ Some k
  from_longer i [] ys k some = absurd cc
  from_longer i (x ∷ xs) ys k some = elim (split_some (test x) i k (position_from test (i + 1) xs) some) [
    | inl here ↦ ap (λ (b : Bool). if b then Some i else position_from test (i + 1) (xs ++ ys)) here.0 ∙ ap Some here.1
    | inr later ↦
        ap (λ (b : Bool). if b then Some i else position_from test (i + 1) (xs ++ ys)) later.0 ∙ from_longer (i + 1) xs ys k later.1
  ]

  from_last : (i : ℕ) (xs : List A) (y : A) → position_from test i xs ≡ None → test y ≡ true → position_from test i (xs ++ y ∷ []) ≡ Some (i + length xs)
  from_last i [] y none passes = let here : i ≡ i + 0 = omega arith in ap (λ (b : Bool). if b then Some i else None) passes ∙ ap Some here
  from_last i (x ∷ xs) y none passes =
      let both = split_none (test x) i (position_from test (i + 1) xs) none in
      let index : (i + 1) + length xs ≡ i + suc (length xs) = omega arith in
      ap (λ (b : Bool). if b then Some i else position_from test (i + 1) (xs ++ y ∷ [])) both.0 ∙ from_last (i + 1) xs y both.1 passes ∙ ap Some index

  -- where no index is found, the test fails at each
  pub none_passes : (xs : List A) → position test xs ≡ None → (k : ℕ) (x : A) → slice_get xs k ≡ Some x → test x ≡ false
  none_passes xs none = from_none 0 xs (sym (position_from-zero test xs) ∙ none)

  pub none_found : (xs : List A) → ((k : ℕ) (x : A) → slice_get xs k ≡ Some x → test x ≡ false) → position test xs ≡ None
  none_found xs fails = position_from-zero test xs ∙ from_all 0 xs fails

  -- what is found passes the test
  pub found_passes : (xs : List A) (k : ℕ) → position test xs ≡ Some k → (x : A) × (slice_get xs k ≡ Some x) × (test x ≡ true)
  found_passes xs k some =
      let found = from_some 0 xs k (sym (position_from-zero test xs) ∙ some) in
      let at = found.2 in
      let index : k ≡ found.0 = omega (arith, at) in
      (found.1, ap (slice_get xs) index ∙ found.3, found.4)

  pub found_in_longer : (xs ys : List A) (k : ℕ) → position test xs ≡ Some k → position test (xs ++ ys) ≡ Some k
  found_in_longer xs ys k some = position_from-zero test (xs ++ ys) ∙ from_longer 0 xs ys k (sym (position_from-zero test xs) ∙ some)

  pub found_last : (xs : List A) (y : A) → position test xs ≡ None → test y ≡ true → position test (xs ++ y ∷ []) ≡ Some (length xs)
  found_last xs y none passes =
      let index : 0 + length xs ≡ length xs = omega arith in
      position_from-zero test (xs ++ y ∷ []) ∙ from_last 0 xs y (sym (position_from-zero test xs) ∙ none) passes ∙ ap Some index
