-- Labels that corruptions open, and labels with readers put in place.
use Rattle.std.proofs.Common.{◌≡◌, Bool, true, false, List, [], ◌∷◌, Option, Some, None, map, ◌||◌, ◌&&◌, ◌==◌, ℕ, ap, sym, refl, inl, inr}
use Rattle.std.specs.List.{list_any, Contains}
use Rattle.std.specs.Option.{option_map}
use Rattle.std.specs.Str.{bytes_eq}
use Rattle.std.proofs.lemmas.Bool.{or_cases, or_left, or_right, and_parts, and_from, eqb-true, eq-eqb}
use Rattle.std.proofs.lemmas.Slice.Eq.{bytes_eq-Decides}
use Rattle.std.proofs.lemmas.List.Folds.{Any-from_list_any, list_any-from_Any}
use Rattle.dy_label.specs.Labels.{Place, Principal, Session, Version, LabelOf, Label, Public, Nobody, One, Join, Meet, covers, opens, is_covered_by, is_open_to, is_open_where, is_open, one_or_nobody, with_readers}

pub list_any_map : {X Y : Type 0} (test : Y → Bool) (f : X → Y) (xs : List X) → list_any test (map f xs) ≡ list_any (λ x. test (f x)) xs
list_any_map test f [] = refl
list_any_map test f (x ∷ xs) = ap (λ b. test (f x) || b) (list_any_map test f xs)

-- a test that one of some passes is passed by one of more
list_any_rises : {X : Type 0} (test : X → Bool) (some more : List X) → ((x : X) → Contains some x → Contains more x) → list_any test some ≡ true → list_any test more ≡ true
list_any_rises test some more among passed =
    let found = Any-from_list_any test some passed in
    let stands = among found.1 (found.0, found.2, found.3) in
    list_any-from_Any test more (stands.0, found.1, stands.1, stands.2, found.4)

-- A label does not close when more readers open.
pub open-more : {A : Type 0} (reads other : A → Bool) → ((reader : A) → reads reader ≡ true → other reader ≡ true)
    → (label : LabelOf A) → is_open_where reads label ≡ true → is_open_where other label ≡ true
open-more reads other more Public h = refl
open-more reads other more Nobody h = h
open-more reads other more (One reader) h = more reader h
open-more reads other more (Join l m) h = elim (or_cases (is_open_where reads l) (is_open_where reads m) h) [
  | inl p ↦ or_left (is_open_where other l) (is_open_where other m) (open-more reads other more l p)
  | inr p ↦ or_right (is_open_where other l) (is_open_where other m) (open-more reads other more m p)
]
open-more reads other more (Meet l m) h =
    let parts = and_parts (is_open_where reads l) (is_open_where reads m) h in
    and_from (is_open_where other l) (is_open_where other m) (open-more reads other more l parts.0) (open-more reads other more m parts.1)

pub is_open_rises : (some more : List Place) (label : Label) → ((corruption : Place) → Contains some corruption → Contains more corruption) → is_open some label ≡ true → is_open more label ≡ true
is_open_rises some more label among = open-more (is_open_to some) (is_open_to more) (λ reader. list_any_rises (opens reader) some more among) label

-- ---- what is covered

pub bytes_eq-turned : (p q : List ℕ) → bytes_eq p q ≡ true → bytes_eq q p ≡ true
bytes_eq-turned p q h = (bytes_eq-Decides q p).1 (sym ((bytes_eq-Decides p q).0 h))

pub eqb-turned : (m n : ℕ) → (m == n) ≡ true → (n == m) ≡ true
eqb-turned m n h = eq-eqb n m (sym (eqb-true m n h))

version-turned : (p q : List ℕ) (s t v w : ℕ) → covers (Version p s v) (Version q t w) ≡ true → covers (Version q t w) (Version p s v) ≡ true
version-turned p q s t v w h =
    let parts = and_parts (bytes_eq p q && (s == t)) (v == w) h in
    let session = and_parts (bytes_eq p q) (s == t) parts.0 in
    and_from (bytes_eq q p && (t == s)) (w == v)
    (and_from (bytes_eq q p) (t == s) (bytes_eq-turned p q session.0) (eqb-turned s t session.1)) (eqb-turned v w parts.1)

with_less : (less more : Bool) → (less ≡ true → more ≡ true) → more ≡ (less || more)
with_less true more h = h refl
with_less false more h = refl

covers-version : (corruption : Place) (p : List ℕ) (s v : ℕ) → covers corruption (Version p s v) ≡ opens (Version p s v) corruption
covers-version (Principal q) p s v = refl
covers-version (Session q t) p s v = refl
covers-version (Version q t w) p s v = with_less (covers (Version p s v) (Version q t w)) (covers (Version q t w) (Version p s v)) (version-turned p q s t v w)

pub is_covered_by-version : (corruptions : List Place) (p : List ℕ) (s v : ℕ) → is_covered_by corruptions (Version p s v) ≡ is_open_to corruptions (Version p s v)
is_covered_by-version [] p s v = refl
is_covered_by-version (corruption ∷ corruptions) p s v = let this = covers-version corruption p s v in let rest = is_covered_by-version corruptions p s v in cc

-- ---- readers put in place

module _ {A B : Type 0} (reader_for : A → Option B) where
  pub open-with_readers : (reads : B → Bool) (label : LabelOf A)
      → is_open_where reads (with_readers reader_for label) ≡ is_open_where (λ reader. is_open_where reads (one_or_nobody (reader_for reader))) label
  open-with_readers reads Public = refl
  open-with_readers reads Nobody = refl
  open-with_readers reads (One reader) = refl
  open-with_readers reads (Join l m) = let in_l = open-with_readers reads l in let in_m = open-with_readers reads m in cc
  open-with_readers reads (Meet l m) = let in_l = open-with_readers reads l in let in_m = open-with_readers reads m in cc

  -- others in the place of those that were put in place
  pub with_readers-twice : {C : Type 0} (f : B → C) (label : LabelOf A)
      → with_readers (λ reader. Some (f reader)) (with_readers reader_for label) ≡ with_readers (λ reader. option_map f (reader_for reader)) label
  with_readers-twice f Public = refl
  with_readers-twice f Nobody = refl
  with_readers-twice f (One reader) = placed (reader_for reader) where
    placed : (o : Option B) → with_readers (λ reader. Some (f reader)) (one_or_nobody o) ≡ one_or_nobody (option_map f o)
    placed None = refl
    placed (Some reader) = refl
  with_readers-twice f (Join l m) = let in_l = with_readers-twice f l in let in_m = with_readers-twice f m in cc
  with_readers-twice f (Meet l m) = let in_l = with_readers-twice f l in let in_m = with_readers-twice f m in cc
