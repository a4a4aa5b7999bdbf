-- What is in a list, and what a test or a choice finds there.
use Rattle.std.proofs.Common.{◌≡◌, ◌<◌, Bool, true, false, cond, List, [], ◌∷◌, map, Contains, Option, Some, None, refl, sym, ap, subst, inl, inr, arith, ◌⊎◌}
use Rattle.std.specs.List.{list_all, filter, filter_map, cons_option}
use Rattle.std.proofs.lemmas.Bool.{and_parts, and_from}
use Rattle.std.proofs.lemmas.List.Elements.{Contains-append_right, Contains-push_cases, Contains-append_cases}

pub Contains-none : {A : Type 0} (x : A) → Contains [] x → ⊥
Contains-none x h = let below : h.0 < 0 = h.1 in omega arith

pub Contains-first : {A : Type 0} (x : A) (xs : List A) → Contains (x ∷ xs) x
Contains-first x xs = (0, omega arith, refl)

pub Contains-later : {A : Type 0} (x : A) (xs : List A) (y : A) → Contains xs y → Contains (x ∷ xs) y
Contains-later x xs y h = Contains-append_right (x ∷ []) xs y h

-- What is in a list is its first element or in the rest.
pub Contains-cases : {A : Type 0} (x : A) (xs : List A) (y : A) → Contains (x ∷ xs) y → (x ≡ y) ⊎ Contains xs y
Contains-cases x xs y h = elim (Contains-append_cases (x ∷ []) xs y h) [
  | inl alone ↦ elim (Contains-push_cases [] x y alone) [ inl none ↦ absurd (Contains-none y none) | inr is ↦ inl is ]
  | inr later ↦ inr later
]

-- A test that each element passes, all pass.
pub list_all-from_each : {A : Type 0} (test : A → Bool) (xs : List A) → ((x : A) → Contains xs x → test x ≡ true)
    → list_all test xs ≡ true
list_all-from_each test [] h = refl
list_all-from_each test (x ∷ xs) h =
    and_from (test x) (list_all test xs) (h x (Contains-first x xs))
    (list_all-from_each test xs (λ y k. h y (Contains-later x xs y k)))

-- A test that all pass, each element passes.
pub each_of_list_all : {A : Type 0} (test : A → Bool) (xs : List A) (x : A) → list_all test xs ≡ true → Contains xs x
    → test x ≡ true
each_of_list_all test [] x all h = absurd (Contains-none x h)
each_of_list_all {A = A} test (first ∷ xs) x all h =
    let parts = and_parts (test first) (list_all test xs) all in
    elim (Contains-cases first xs x h) [
      | inl is ↦ subst (λ (y : A). test y ≡ true) is parts.0
      | inr later ↦ each_of_list_all test xs x parts.1 later
    ]

one_chosen : {B : Type 0} (chosen : Option B) (ys : List B) (y : B) → Contains (cons_option chosen ys) y
    → (chosen ≡ Some y) ⊎ Contains ys y
one_chosen None ys y h = inr h
one_chosen (Some z) ys y h = elim (Contains-cases z ys y h) [ inl is ↦ inl (ap Some is) | inr later ↦ inr later ]

-- what is chosen stands for an element
pub filter_map-from : {A B : Type 0} (choose : A → Option B) (xs : List A) (y : B) → Contains (filter_map choose xs) y
    → (x : A) × Contains xs x × (choose x ≡ Some y)
filter_map-from choose [] y h = absurd (Contains-none y h)
filter_map-from choose (x ∷ xs) y h = elim (one_chosen (choose x) (filter_map choose xs) y h) [
  | inl is ↦ (x, Contains-first x xs, is)
  | inr later ↦ let found = filter_map-from choose xs y later in (found.0, Contains-later x xs found.0 found.1, found.2)
]

chosen_first : {B : Type 0} (chosen : Option B) (ys : List B) (y : B) → chosen ≡ Some y → Contains (cons_option chosen ys) y
chosen_first {B = B} chosen ys y is = rw is (Contains-first y ys)

chosen_later : {B : Type 0} (chosen : Option B) (ys : List B) (y : B) → Contains ys y → Contains (cons_option chosen ys) y
chosen_later None ys y h = h
chosen_later (Some z) ys y h = Contains-later z ys y h

-- what is chosen for an element is there
pub Contains-filter_map : {A B : Type 0} (choose : A → Option B) (xs : List A) (x : A) (y : B) → Contains xs x
    → choose x ≡ Some y → Contains (filter_map choose xs) y
Contains-filter_map choose [] x y h is = absurd (Contains-none x h)
Contains-filter_map {A = A} choose (first ∷ xs) x y h is = elim (Contains-cases first xs x h) [
  | inl same ↦ chosen_first (choose first) (filter_map choose xs) y (subst (λ (z : A). choose z ≡ Some y) (sym same) is)
  | inr later ↦ chosen_later (choose first) (filter_map choose xs) y (Contains-filter_map choose xs x y later is)
]

-- what is mapped stands for an element
pub map-from : {A B : Type 0} (f : A → B) (xs : List A) (y : B) → Contains (map f xs) y
    → (x : A) × Contains xs x × (f x ≡ y)
map-from f [] y h = absurd (Contains-none y h)
map-from f (x ∷ xs) y h = elim (Contains-cases (f x) (map f xs) y h) [
  | inl is ↦ (x, Contains-first x xs, is)
  | inr later ↦ let found = map-from f xs y later in (found.0, Contains-later x xs found.0 found.1, found.2)
]

-- what an element is mapped to is there
pub Contains-map : {A B : Type 0} (f : A → B) (xs : List A) (x : A) → Contains xs x → Contains (map f xs) (f x)
Contains-map f [] x h = absurd (Contains-none x h)
Contains-map {B = B} f (first ∷ xs) x h = elim (Contains-cases first xs x h) [
  | inl is ↦ subst (λ (y : B). Contains (f first ∷ map f xs) y) (ap f is) (Contains-first (f first) (map f xs))
  | inr later ↦ Contains-later (f first) (map f xs) (f x) (Contains-map f xs x later)
]

one_kept : {A : Type 0} (passes : Bool) (x : A) (ys : List A) (y : A) → Contains (cond passes (x ∷ ys) ys) y
    → ((passes ≡ true) × (x ≡ y)) ⊎ Contains ys y
one_kept true x ys y h = elim (Contains-cases x ys y h) [ inl is ↦ inl (refl, is) | inr later ↦ inr later ]
one_kept false x ys y h = inr h

-- what is left of a list is in it, and passes the test
pub filter-from : {A : Type 0} (test : A → Bool) (xs : List A) (y : A) → Contains (filter test xs) y
    → Contains xs y × (test y ≡ true)
filter-from test [] y h = absurd (Contains-none y h)
filter-from {A = A} test (x ∷ xs) y h = elim (one_kept (test x) x (filter test xs) y h) [
  | inl is ↦ (
    subst (λ (z : A). Contains (x ∷ xs) z) is.1 (Contains-first x xs),
    subst (λ (z : A). test z ≡ true) is.1 is.0,
  )
  | inr later ↦ let found = filter-from test xs y later in (Contains-later x xs y found.0, found.1)
]

kept_first : {A : Type 0} (passes : Bool) (x : A) (ys : List A) → passes ≡ true → Contains (cond passes (x ∷ ys) ys) x
kept_first passes x ys is = rw is (Contains-first x ys)

kept_later : {A : Type 0} (passes : Bool) (x : A) (ys : List A) (y : A) → Contains ys y
    → Contains (cond passes (x ∷ ys) ys) y
kept_later true x ys y h = Contains-later x ys y h
kept_later false x ys y h = h

-- what passes the test is left
pub Contains-filter : {A : Type 0} (test : A → Bool) (xs : List A) (y : A) → Contains xs y → test y ≡ true
    → Contains (filter test xs) y
Contains-filter test [] y h passes = absurd (Contains-none y h)
Contains-filter {A = A} test (x ∷ xs) y h passes = elim (Contains-cases x xs y h) [
  | inl is ↦ subst (λ (z : A). Contains (filter test (x ∷ xs)) z) is
      (kept_first (test x) x (filter test xs) (subst (λ (z : A). test z ≡ true) (sym is) passes))
  | inr later ↦ kept_later (test x) x (filter test xs) y (Contains-filter test xs y later passes)
]
