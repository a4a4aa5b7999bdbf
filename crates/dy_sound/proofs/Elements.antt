-- What is chosen of the elements of a list.
use Rattle.std.proofs.Common.{◌≡◌, ℕ, Bool, true, false, List, [], ◌∷◌, map, Contains, Option, Some, None, if◌then◌else◌, refl, sym, ap, subst, inl, inr, ◌∙◌, ◌⊎◌}
use Rattle.std.specs.List.{slice_get, list_all, filter_map, cons_option}
use Rattle.std.proofs.lemmas.Bool.{and_parts, and_from}
use Rattle.std.proofs.lemmas.Option.{get_or_from_slice_get}
use Rattle.dy_sound.proofs.Lists.{Contains-none, Contains-first, Contains-later, Contains-cases, below_length}

-- what stands at an index is in the list
pub Contains-at : {A : Type 0} (xs : List A) (k : ℕ) (x : A) → slice_get xs k ≡ Some x → Contains xs x
Contains-at xs k x at = (k, below_length xs k x at, get_or_from_slice_get xs k x x at)

-- A test that each element passes, all pass.
pub list_all-from_each : {A : Type 0} (test : A → Bool) (xs : List A) → ((x : A) → Contains xs x → test x ≡ true)
    → list_all test xs ≡ true
list_all-from_each test [] h = refl
list_all-from_each test (x ∷ xs) h =
    and_from (test x) (list_all test xs) (h x (Contains-first x xs))
    (list_all-from_each test xs (λ y k. h y (Contains-later x xs y k)))

-- A test that all pass, each element passes.
pub each_of_list_all : {A : Type 0} (test : A → Bool) (xs : List A) (x : A) → list_all test xs ≡ true → Contains xs x
    → test x ≡ true
each_of_list_all test [] x all h = absurd (Contains-none x h)
each_of_list_all {A = A} test (first ∷ xs) x all h =
    let parts = and_parts (test first) (list_all test xs) all in
    elim (Contains-cases first xs x h) [
      | inl is ↦ subst (λ (y : A). test y ≡ true) is parts.0
      | inr later ↦ each_of_list_all test xs x parts.1 later
    ]

one_chosen : {B : Type 0} (chosen : Option B) (ys : List B) (y : B) → Contains (cons_option chosen ys) y
    → (chosen ≡ Some y) ⊎ Contains ys y
one_chosen None ys y h = inr h
one_chosen (Some z) ys y h = elim (Contains-cases z ys y h) [ inl is ↦ inl (ap Some is) | inr later ↦ inr later ]

-- what is chosen stands for an element
pub filter_map-from : {A B : Type 0} (choose : A → Option B) (xs : List A) (y : B) → Contains (filter_map choose xs) y
    → (x : A) × Contains xs x × (choose x ≡ Some y)
filter_map-from choose [] y h = absurd (Contains-none y h)
filter_map-from choose (x ∷ xs) y h = elim (one_chosen (choose x) (filter_map choose xs) y h) [
  | inl is ↦ (x, Contains-first x xs, is)
  | inr later ↦ let found = filter_map-from choose xs y later in (found.0, Contains-later x xs found.0 found.1, found.2)
]

chosen_first : {B : Type 0} (chosen : Option B) (ys : List B) (y : B) → chosen ≡ Some y → Contains (cons_option chosen ys) y
chosen_first {B = B} chosen ys y is = rw is (Contains-first y ys)

chosen_later : {B : Type 0} (chosen : Option B) (ys : List B) (y : B) → Contains ys y → Contains (cons_option chosen ys) y
chosen_later None ys y h = h
chosen_later (Some z) ys y h = Contains-later z ys y h

-- what is chosen for an element is there
pub Contains-filter_map : {A B : Type 0} (choose : A → Option B) (xs : List A) (x : A) (y : B) → Contains xs x
    → choose x ≡ Some y → Contains (filter_map choose xs) y
Contains-filter_map choose [] x y h is = absurd (Contains-none x h)
Contains-filter_map {A = A} choose (first ∷ xs) x y h is = elim (Contains-cases first xs x h) [
  | inl same ↦ chosen_first (choose first) (filter_map choose xs) y (subst (λ (z : A). choose z ≡ Some y) (sym same) is)
  | inr later ↦ chosen_later (choose first) (filter_map choose xs) y (Contains-filter_map choose xs x y later is)
]

-- what an element is mapped to is there
pub Contains-map : {A B : Type 0} (f : A → B) (xs : List A) (x : A) → Contains xs x → Contains (map f xs) (f x)
Contains-map f [] x h = absurd (Contains-none x h)
Contains-map {B = B} f (first ∷ xs) x h = elim (Contains-cases first xs x h) [
  | inl is ↦ subst (λ (y : B). Contains (f first ∷ map f xs) y) (ap f is) (Contains-first (f first) (map f xs))
  | inr later ↦ Contains-later (f first) (map f xs) (f x) (Contains-map f xs x later)
]

-- what is mapped stands for an element
pub map-from : {A B : Type 0} (f : A → B) (xs : List A) (y : B) → Contains (map f xs) y
    → (x : A) × Contains xs x × (f x ≡ y)
map-from f [] y h = absurd (Contains-none y h)
map-from f (x ∷ xs) y h = elim (Contains-cases (f x) (map f xs) y h) [
  | inl is ↦ (x, Contains-first x xs, is)
  | inr later ↦ let found = map-from f xs y later in (found.0, Contains-later x xs found.0 found.1, found.2)
]

-- Two functions that agree on each element map the list alike.
pub map-alike : {A B : Type 0} (f g : A → B) (xs : List A) → ((x : A) → Contains xs x → f x ≡ g x) → map f xs ≡ map g xs
map-alike f g [] alike = refl
map-alike f g (x ∷ xs) alike =
    ap (λ y. y ∷ map f xs) (alike x (Contains-first x xs))
    ∙ ap (λ ys. g x ∷ ys) (map-alike f g xs (λ y h. alike y (Contains-later x xs y h)))

-- what is there only by a test
pub if_some : {A : Type 0} (b : Bool) (x y : A) → (if b then Some x else None) ≡ Some y → (b ≡ true) × (x ≡ y)
if_some true x y is = (refl, cc)
if_some false x y is = absurd cc
