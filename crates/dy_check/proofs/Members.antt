-- Lists that have the same elements, and what is made of them.
use Rattle.std.proofs.Common.{◌≡◌, ◌<◌, Bool, true, false, List, [], ◌∷◌, Contains, Option, Some, None, refl, sym, ap, ◌∙◌, inl, inr, ◌⊎◌, arith}
use Rattle.std.specs.List.{list_all, filter_map, cons_option}
use Rattle.std.proofs.lemmas.Bool.{and_parts, and_from}
use Rattle.std.proofs.lemmas.List.Elements.{Contains-append_left, Contains-append_right, Contains-append_cases, Contains-push, Contains-push_cases}
use Rattle.dy_types.specs.Tables.{is_empty}

pub in_none : {A : Type 0} (x : A) → Contains [] x → ⊥
in_none x h = let below : h.0 < 0 = h.1 in omega arith

pub in_first : {A : Type 0} (x : A) (xs : List A) → Contains (x ∷ xs) x
in_first x xs = Contains-append_left (x ∷ []) xs x (Contains-push [] x)

pub in_later : {A : Type 0} (x y : A) (xs : List A) → Contains xs y → Contains (x ∷ xs) y
in_later x y xs h = Contains-append_right (x ∷ []) xs y h

pub in_one : {A : Type 0} (x y : A) → Contains (x ∷ []) y → x ≡ y
in_one x y h = elim (Contains-push_cases [] x y h) [ inl none ↦ absurd (in_none y none) | inr is ↦ is ]

in_first_or_later : {A : Type 0} (x y : A) (xs : List A) → Contains (x ∷ xs) y → (x ≡ y) ⊎ Contains xs y
in_first_or_later x y xs h = elim (Contains-append_cases (x ∷ []) xs y h) [ inl first ↦ inl (in_one x y first) | inr later ↦ inr later ]

-- what is made of an element
in_filter_map : {A B : Type 0} (f : A → Option B) (xs : List A) (x : A) (y : B) → Contains xs x → f x ≡ Some y → Contains (filter_map f xs) y
in_filter_map f [] x y h k = absurd (in_none x h)
in_filter_map f (z ∷ xs) x y h k = elim (in_first_or_later z x xs h) [
  | inl is ↦ rw (ap f is ∙ k) (in_first y (filter_map f xs))
  | inr later ↦ in_more (f z) (filter_map f xs) y (in_filter_map f xs x y later k)
]
  where
    in_more : {B : Type 0} (made : Option B) (ys : List B) (y : B) → Contains ys y → Contains (cons_option made ys) y
    in_more None ys y h = h
    in_more (Some z) ys y h = in_later z y ys h

-- An element that is made is made of one.
pub from_filter_map : {A B : Type 0} (f : A → Option B) (xs : List A) (y : B) → Contains (filter_map f xs) y → (x : A) × Contains xs x × (f x ≡ Some y)
from_filter_map f [] y h = absurd (in_none y h)
from_filter_map f (z ∷ xs) y h = elim (from_more (f z) (filter_map f xs) y h) [
  | inl is ↦ (z, in_first z xs, is)
  | inr later ↦ let found = from_filter_map f xs y later in (found.0, in_later z found.0 xs found.1, found.2)
]
  where
    from_more : {B : Type 0} (made : Option B) (ys : List B) (y : B) → Contains (cons_option made ys) y → (made ≡ Some y) ⊎ Contains ys y
    from_more None ys y h = inr h
    from_more (Some z) ys y h = elim (in_first_or_later z y ys h) [ inl is ↦ inl (ap Some is) | inr later ↦ inr later ]

-- Two lists have the same elements.
pub record SameMembers {A : Type 0} (xs ys : List A) : Type 0 where
  pub into : (x : A) → Contains xs x → Contains ys x
  pub back : (x : A) → Contains ys x → Contains xs x

pub filter_map-same : {A B : Type 0} (f : A → Option B) (xs ys : List A) → SameMembers xs ys → SameMembers (filter_map f xs) (filter_map f ys)
filter_map-same f xs ys h = record {
  into = λ y k. let found = from_filter_map f xs y k in in_filter_map f ys found.0 y (h.into found.0 found.1) found.2;
  back = λ y k. let found = from_filter_map f ys y k in in_filter_map f xs found.0 y (h.back found.0 found.1) found.2;
}

all_pass : {A : Type 0} (p : A → Bool) (xs : List A) (x : A) → list_all p xs ≡ true → Contains xs x → p x ≡ true
all_pass p [] x h k = absurd (in_none x k)
all_pass p (y ∷ xs) x h k =
    let parts = and_parts (p y) (list_all p xs) h in
    elim (in_first_or_later y x xs k) [ inl is ↦ ap p (sym is) ∙ parts.0 | inr later ↦ all_pass p xs x parts.1 later ]

pass_all : {A : Type 0} (p : A → Bool) (xs : List A) → ((x : A) → Contains xs x → p x ≡ true) → list_all p xs ≡ true
pass_all p [] h = refl
pass_all p (x ∷ xs) h = and_from (p x) (list_all p xs) (h x (in_first x xs)) (pass_all p xs (λ y k. h y (in_later x y xs k)))

same_truth : (a b : Bool) → (a ≡ true → b ≡ true) → (b ≡ true → a ≡ true) → a ≡ b
same_truth true b h k = sym (h refl)
same_truth false true h k = k refl
same_truth false false h k = refl

-- Of lists with the same elements, all pass a test or neither.
pub list_all-same : {A : Type 0} (p : A → Bool) (xs ys : List A) → SameMembers xs ys → list_all p xs ≡ list_all p ys
list_all-same p xs ys h =
    same_truth (list_all p xs) (list_all p ys)
    (λ all. pass_all p ys (λ y k. all_pass p xs y all (h.back y k)))
    (λ all. pass_all p xs (λ x k. all_pass p ys x all (h.into x k)))

pub is_empty-same : {A : Type 0} (xs ys : List A) → SameMembers xs ys → is_empty xs ≡ is_empty ys
is_empty-same [] [] h = refl
is_empty-same [] (y ∷ ys) h = absurd (in_none y (h.back y (in_first y ys)))
is_empty-same (x ∷ xs) [] h = absurd (in_none x (h.into x (in_first x xs)))
is_empty-same (x ∷ xs) (y ∷ ys) h = refl
