-- Elements of lists by their places, and lists in order.
use Rattle.std.proofs.Common.{◌≡◌, ℕ, zero, suc, ◌<◌, Bool, true, List, [], ◌∷◌, ◌++◌, map, length, Some, Contains, ◌⊎◌, inl, inr, refl, ap, sym, ◌∙◌, subst, arith}
use Rattle.std.specs.List.{slice_get}
use Rattle.std.specs.Option.{option_map}
use Rattle.std.proofs.lemmas.Option.{slice_get_within, get_or_from_slice_get, slice_get_read, slice_get-map}
use Rattle.std.proofs.Common.{append_assoc}
use Rattle.std.proofs.lemmas.List.{append-nil}
use Rattle.dy_entry.proofs.Traces.{slice_get_split}
use Rattle.dy_know.specs.Reports.{IsInOrder}

-- what stands at a place is in the list
pub is_in : {A : Type 0} (xs : List A) (i : ℕ) (x : A) → slice_get xs i ≡ Some x → Contains xs x
is_in xs i x at = (i, slice_get_within xs i x at, get_or_from_slice_get xs i x x at)

-- what is in the list stands at a place
pub place_of : {A : Type 0} (xs : List A) (x : A) → Contains xs x → (i : ℕ) × (slice_get xs i ≡ Some x)
place_of xs x within = (within.0, slice_get_read xs (length xs) within.0 x refl within.1 (sym within.2))

-- what is in a list with one item more is in the list, or is that item
pub in_push : {A : Type 0} (xs : List A) (y x : A) → Contains (xs ++ y ∷ []) x → Contains xs x ⊎ (y ≡ x)
in_push xs y x within =
    let at = place_of (xs ++ y ∷ []) x within in
    elim (slice_get_split xs y x at.0 at.1) [ inl before ↦ inl (is_in xs at.0 x before) | inr last ↦ inr last.1 ]

-- nothing is in the empty list
pub in_none : {A : Type 0} (x : A) → Contains [] x → ⊥
in_none x within = let at = place_of [] x within in none at.0 at.1
  where
    none : (i : ℕ) → slice_get [] i ≡ Some x → ⊥
    none i e = cc

-- each value stands at a place below the length
pub stands_below : {A : Type 0} (xs : List A) (i : ℕ) → i < length xs → (x : A) × (slice_get xs i ≡ Some x)
stands_below [] i below = absurd (omega (arith, below))
stands_below (x ∷ xs) zero below = (x, refl)
stands_below (x ∷ xs) (suc i) below = stands_below xs i (omega (arith, below))

-- the empty list is in order
pub in_order_none : {A : Type 0} (before : A → A → Bool) → IsInOrder before []
in_order_none before = record { in_order = λ i j first second less at_i at_j. absurd cc }

-- one item more, which comes after all others
pub in_order_push : {A : Type 0} (before : A → A → Bool) (xs : List A) (y : A) → IsInOrder before xs
    → ((x : A) → Contains xs x → before x y ≡ true) → IsInOrder before (xs ++ y ∷ [])
in_order_push before xs y ordered last = record {
  in_order = λ i j first second less at_i at_j.
      elim (slice_get_split xs y second j at_j) [
        | inl second_in ↦ elim (slice_get_split xs y first i at_i) [
          | inl first_in ↦ ordered.in_order i j first second less first_in second_in
          | inr first_last ↦ let within = slice_get_within xs j second second_in in absurd (omega (arith, within, first_last.0))
        ]
        | inr second_last ↦ elim (slice_get_split xs y first i at_i) [
          | inl first_in ↦ subst (λ z. before first z ≡ true) second_last.1 (last first (is_in xs i first first_in))
          | inr first_last ↦ absurd (omega (arith, second_last.0, first_last.0))
        ]
      ];
}

-- two lists in order, of which each item of the one comes before each of the other
pub in_order_append : {A : Type 0} (before : A → A → Bool) (xs ys : List A) → IsInOrder before xs → IsInOrder before ys
    → ((x y : A) → Contains xs x → Contains ys y → before x y ≡ true) → IsInOrder before (xs ++ ys)
in_order_append before xs [] ordered ordered' across = rw append-nil ordered
in_order_append before xs (y ∷ ys) ordered ordered' across =
    let first_in : Contains (y ∷ ys) y = is_in (y ∷ ys) zero y refl in
    let later : (z : _) → Contains ys z → Contains (y ∷ ys) z = λ z within. let at = place_of ys z within in is_in (y ∷ ys) (suc at.0) z at.1 in
    let tail : IsInOrder before ys = record { in_order = λ i j first second less at_i at_j. ordered'.in_order (suc i) (suc j) first second (omega (arith, less)) at_i at_j } in
    let all : IsInOrder before ((xs ++ y ∷ []) ++ ys) = in_order_append before (xs ++ y ∷ []) ys
    (in_order_push before xs y ordered (λ x within. across x y within first_in)) tail
    (λ x z within within'. elim (in_push xs y x within) [
      | inl before_y ↦ across x z before_y (later z within')
      | inr is ↦ let at = place_of ys z within' in subst (λ w. before w z ≡ true) is (ordered'.in_order zero (suc at.0) y z (omega arith) refl at.1)
    ]) in
    subst (IsInOrder before) (append_assoc xs (y ∷ []) ys) all

-- an item of a list to which a function is applied comes from one of the list
pub from_mapped : {A B : Type 0} (f : A → B) (xs : List A) (i : ℕ) (y : B) → slice_get (map f xs) i ≡ Some y → (x : A) × (slice_get xs i ≡ Some x) × (f x ≡ y)
from_mapped f [] i y at = absurd cc
from_mapped f (x ∷ xs) zero y at = (x, refl, cc)
from_mapped f (x ∷ xs) (suc i) y at = from_mapped f xs i y at

pub in_mapped : {A B : Type 0} (f : A → B) (xs : List A) (y : B) → Contains (map f xs) y → (x : A) × Contains xs x × (f x ≡ y)
in_mapped f xs y within =
    let at = place_of (map f xs) y within in
    let found = from_mapped f xs at.0 y at.1 in
    (found.0, is_in xs at.0 found.0 found.1, found.2)

pub mapped_in : {A B : Type 0} (f : A → B) (xs : List A) (x : A) → Contains xs x → Contains (map f xs) (f x)
mapped_in f xs x within = let at = place_of xs x within in is_in (map f xs) at.0 (f x) (slice_get-map f xs at.0 ∙ ap (option_map f) at.1)

-- a list stays in order where a function keeps it
pub in_order_map : {A B : Type 0} (before : A → A → Bool) (before' : B → B → Bool) (f : A → B) (xs : List A)
    → ((x y : A) → before x y ≡ true → before' (f x) (f y) ≡ true) → IsInOrder before xs → IsInOrder before' (map f xs)
in_order_map before before' f xs keeps ordered = record {
  in_order = λ i j first second less at_i at_j.
      let a = from_mapped f xs i first at_i in
      let b = from_mapped f xs j second at_j in
      subst (λ z. before' first z ≡ true) b.2 (subst (λ z. before' z (f b.0) ≡ true) a.2 (keeps a.0 b.0 (ordered.in_order i j a.0 b.0 less a.1 b.1)));
}

-- what is in a list with a first item is that item, or stands later
pub head_or_later : {A : Type 0} (y : A) (ys : List A) (x : A) → Contains (y ∷ ys) x → (y ≡ x) ⊎ Contains ys x
head_or_later y ys x within = let at = place_of (y ∷ ys) x within in by_place at.0 at.1
  where
    by_place : (i : ℕ) → slice_get (y ∷ ys) i ≡ Some x → (y ≡ x) ⊎ Contains ys x
    by_place zero at = inl cc
    by_place (suc i) at = inr (is_in ys i x at)

pub in_later : {A : Type 0} (y : A) (ys : List A) (x : A) → Contains ys x → Contains (y ∷ ys) x
in_later y ys x within = let at = place_of ys x within in is_in (y ∷ ys) (suc at.0) x at.1

pub in_head : {A : Type 0} (y : A) (ys : List A) → Contains (y ∷ ys) y
in_head y ys = is_in (y ∷ ys) zero y refl

-- a list in order has a rest in order, of which each item comes after the first
pub order_tail : {A : Type 0} (before : A → A → Bool) (x : A) (xs : List A) → IsInOrder before (x ∷ xs) → IsInOrder before xs
order_tail before x xs ordered = record { in_order = λ i j first second less at_i at_j. ordered.in_order (suc i) (suc j) first second (omega (arith, less)) at_i at_j }

pub order_head : {A : Type 0} (before : A → A → Bool) (x : A) (xs : List A) (z : A) → IsInOrder before (x ∷ xs) → Contains xs z → before x z ≡ true
order_head before x xs z ordered within = let at = place_of xs z within in ordered.in_order zero (suc at.0) x z (omega arith) refl at.1
