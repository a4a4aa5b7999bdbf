-- Which words of a handler can be open together: every choice and all corruptions keep to the law of words.
use Rattle.std.proofs.Common.{◌≡◌, ℕ, Bool, true, false, not, ◌&&◌, ◌||◌, ◌==◌, List, [], ◌∷◌, refl, inl, inr}
use Rattle.std.specs.List.{list_any}
use Rattle.std.specs.Str.{bytes_eq}
use Rattle.std.proofs.lemmas.Bool.{and_parts, and_from, or_cases, or_left, or_right}
use Rattle.dy_label.specs.Labels.{Place, Principal, Session, Version, opens}
use Rattle.dy_label.proofs.LabelsOpen.{bytes_eq-turned, eqb-turned}
use Rattle.dy_label.specs.Words.{Atom, Name, ThisSession, Next, Prior, Choice, is_word_open}

-- A version is open only with its session, and a session only with its principal.
abbrev pub keeps_law : (Atom → Bool) → Bool
keeps_law reads = (not (reads Prior || reads Next) || reads ThisSession) && (not (reads ThisSession) || reads (Name 0))

opens-session : (p : List ℕ) (s v : ℕ) (corruption : Place) → opens (Version p s v) corruption ≡ true → opens (Session p s) corruption ≡ true
opens-session p s v (Principal q) h = h
opens-session p s v (Session q t) h = or_right (bytes_eq p q && (s == t)) (bytes_eq q p && (t == s)) h
opens-session p s v (Version q t w) h = elim (or_cases (bytes_eq p q && (s == t) && (v == w)) (bytes_eq q p && (t == s) && (w == v)) h) [
  | inl a ↦ or_left (bytes_eq p q && (s == t)) false (and_parts (bytes_eq p q && (s == t)) (v == w) a).0
  | inr a ↦
      let parts = and_parts (bytes_eq q p) (t == s) (and_parts (bytes_eq q p && (t == s)) (w == v) a).0 in
      or_left (bytes_eq p q && (s == t)) false (and_from (bytes_eq p q) (s == t) (bytes_eq-turned q p parts.0) (eqb-turned t s parts.1))
]

opens-principal : (p : List ℕ) (s : ℕ) (corruption : Place) → opens (Session p s) corruption ≡ true → opens (Principal p) corruption ≡ true
opens-principal p s (Principal q) h = or_right (bytes_eq p q) (bytes_eq q p) h
opens-principal p s (Session q t) h = elim (or_cases (bytes_eq p q && (s == t)) (bytes_eq q p && (t == s)) h) [
  | inl a ↦ or_left (bytes_eq p q) false (and_parts (bytes_eq p q) (s == t) a).0
  | inr a ↦ or_left (bytes_eq p q) false (bytes_eq-turned q p (and_parts (bytes_eq q p) (t == s) a).0)
]
opens-principal p s (Version q t w) h = elim (or_cases (bytes_eq p q && (s == t)) false h) [
  | inl a ↦ or_left (bytes_eq p q) false (and_parts (bytes_eq p q) (s == t) a).0
  | inr a ↦ cc
]

list_any-more : {A : Type 0} (p q : A → Bool) → ((x : A) → p x ≡ true → q x ≡ true) → (xs : List A) → list_any p xs ≡ true → list_any q xs ≡ true
list_any-more p q more [] h = h
list_any-more p q more (x ∷ xs) h = elim (or_cases (p x) (list_any p xs) h) [
  | inl a ↦ or_left (q x) (list_any q xs) (more x a)
  | inr a ↦ or_right (q x) (list_any q xs) (list_any-more p q more xs a)
]

-- tests as the law has them
law_from : (prior next session own : Bool) → (prior ≡ true → session ≡ true) → (next ≡ true → session ≡ true) → (session ≡ true → own ≡ true)
    → ((not (prior || next) || session) && (not session || own)) ≡ true
law_from true next true true a b c = refl
law_from false true true true a b c = refl
law_from false false true true a b c = refl
law_from prior next true false a b c = let bad = c refl in cc
law_from true next false own a b c = let bad = a refl in cc
law_from false true false own a b c = let bad = b refl in cc
law_from false false false own a b c = refl

pub law_parts : (prior next session own : Bool) → ((not (prior || next) || session) && (not session || own)) ≡ true
    → (prior ≡ true → session ≡ true) × (next ≡ true → session ≡ true) × (session ≡ true → own ≡ true)
law_parts prior next true true h = (λ a. refl, λ a. refl, λ a. refl)
law_parts true next true false h = cc
law_parts false true true false h = cc
law_parts false false true false h = cc
law_parts true next false own h = cc
law_parts false true false own h = cc
law_parts false false false own h = (λ a. a, λ a. a, λ a. cc)

pub keeps_law-is_word_open : (choice : Choice) (corruptions : List Place) → keeps_law (is_word_open choice corruptions) ≡ true
keeps_law-is_word_open choice corruptions =
    let own = choice.principals 0 in
    let session = choice.session in
    law_from (is_word_open choice corruptions Prior) (is_word_open choice corruptions Next) (is_word_open choice corruptions ThisSession) (is_word_open choice corruptions (Name 0))
    (list_any-more (opens (Version own session choice.prior)) (opens (Session own session)) (opens-session own session choice.prior) corruptions)
    (list_any-more (opens (Version own session choice.next)) (opens (Session own session)) (opens-session own session choice.next) corruptions)
    (list_any-more (opens (Session own session)) (opens (Principal own)) (opens-principal own session) corruptions)
