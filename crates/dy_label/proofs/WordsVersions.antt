-- All words that keep to the law of words are opened together, and no others, by corruptions of versions under some choice.
use Rattle.std.proofs.Common.{◌≡◌, ℕ, ◌+◌, ◌<◌, ◌≤◌, zero, suc, Bool, true, false, ◌&&◌, ◌||◌, ◌==◌, List, [], ◌∷◌, refl, sym, ap, ◌∙◌, subst, arith, inl, inr}
use Rattle.std.specs.List.{list_all}
use Rattle.std.specs.Str.{bytes_eq}
use Rattle.std.proofs.lemmas.Slice.Eq.{bytes_eq-Decides}
use Rattle.std.proofs.lemmas.Bool.{or_left, or_from, cases_Bool, ltb-true, and_left, and_right, cases_eq, false_from_ne_true}
use Rattle.dy_label.specs.Labels.{Place, Principal, Session, Version, opens, is_open_to}
use Rattle.dy_label.specs.Words.{Atom, Name, ThisSession, Next, Prior, Choice, is_word_open, is_version, is_below, KeepsApart}
use Rattle.dy_label.proofs.WordsLaw.{keeps_law, law_parts}

-- the name of a principal, a letter of its own for each number
abbrev letter : ℕ → List ℕ
letter number = (97 + number) ∷ []

-- Each name is given a principal of its own.
abbrev pub letters : Choice
letters = record { principals = letter; session = 1; prior = 1; next = 2; rises = omega arith }

-- where a word is open: one version of its own, which opens no other word but those that the law asks for
abbrev pub place_for : Atom → Place
place_for (Name number) = Version (letter number) 2 1
place_for ThisSession = Version (letter 0) 1 3
place_for Prior = Version (letter 0) 1 1
place_for Next = Version (letter 0) 1 2

abbrev pub with : Bool → Place → List Place → List Place
with true place places = place ∷ places
with false place places = places

-- versions that open these names, below a number
abbrev pub versions_of_names : (Atom → Bool) → ℕ → List Place
versions_of_names reads zero = []
versions_of_names reads (suc names) = with (reads (Name names)) (place_for (Name names)) (versions_of_names reads names)

-- versions that open these words, of the names those below a number
abbrev pub versions : (Atom → Bool) → ℕ → List Place
versions reads names =
    with (reads ThisSession) (place_for ThisSession) (with (reads Prior) (place_for Prior) (with (reads Next) (place_for Next) (versions_of_names reads names)))

all_versions-with : (b : Bool) (p : List ℕ) (s v : ℕ) (places : List Place) → list_all is_version places ≡ true → list_all is_version (with b (Version p s v) places) ≡ true
all_versions-with true p s v places h = h
all_versions-with false p s v places h = h

all_versions-names : (reads : Atom → Bool) (names : ℕ) → list_all is_version (versions_of_names reads names) ≡ true
all_versions-names reads zero = refl
all_versions-names reads (suc names) = all_versions-with (reads (Name names)) (letter names) 2 1 (versions_of_names reads names) (all_versions-names reads names)

pub all_versions : (reads : Atom → Bool) (names : ℕ) → list_all is_version (versions reads names) ≡ true
all_versions reads names =
    all_versions-with (reads ThisSession) (letter 0) 1 3 (with (reads Prior) (place_for Prior) (with (reads Next) (place_for Next) (versions_of_names reads names)))
    (all_versions-with (reads Prior) (letter 0) 1 1 (with (reads Next) (place_for Next) (versions_of_names reads names))
    (all_versions-with (reads Next) (letter 0) 1 2 (versions_of_names reads names) (all_versions-names reads names)))

is_open_to-with : (b : Bool) (place : Place) (places : List Place) (reader : Place)
    → is_open_to (with b place places) reader ≡ (b && opens reader place || is_open_to places reader)
is_open_to-with true place places reader = refl
is_open_to-with false place places reader = refl

is_open_to-versions : (reads : Atom → Bool) (names : ℕ) (reader : Place) → is_open_to (versions reads names) reader
    ≡ (reads ThisSession && opens reader (place_for ThisSession)
    || (reads Prior && opens reader (place_for Prior) || (reads Next && opens reader (place_for Next) || is_open_to (versions_of_names reads names) reader)))
is_open_to-versions reads names reader =
    let session = is_open_to-with (reads ThisSession) (place_for ThisSession) (with (reads Prior) (place_for Prior) (with (reads Next) (place_for Next) (versions_of_names reads names))) reader in
    let prior = is_open_to-with (reads Prior) (place_for Prior) (with (reads Next) (place_for Next) (versions_of_names reads names)) reader in
    let next = is_open_to-with (reads Next) (place_for Next) (versions_of_names reads names) reader in
    cc

-- The versions of names open nothing of the session.
versions_of_names-apart : (reader : Place) → ((q : List ℕ) → opens reader (Version q 2 1) ≡ false) → (reads : Atom → Bool) (names : ℕ) → is_open_to (versions_of_names reads names) reader ≡ false
versions_of_names-apart reader apart reads zero = refl
versions_of_names-apart reader apart reads (suc names) =
    is_open_to-with (reads (Name names)) (place_for (Name names)) (versions_of_names reads names) reader
    ∙ or_from (reads (Name names) && opens reader (place_for (Name names))) (is_open_to (versions_of_names reads names) reader)
    (and_right (reads (Name names)) (opens reader (place_for (Name names))) (apart (letter names)))
    (versions_of_names-apart reader apart reads names)

session-apart : (p q : List ℕ) → opens (Session p 1) (Version q 2 1) ≡ false
session-apart p q = or_from (bytes_eq p q && false) false (and_right (bytes_eq p q) false refl) refl

version-apart : (p : List ℕ) (v : ℕ) (q : List ℕ) → opens (Version p 1 v) (Version q 2 1) ≡ false
version-apart p v q = or_from (bytes_eq p q && false && (v == 1)) (bytes_eq q p && false && (1 == v))
    (and_left (bytes_eq p q && false) (v == 1) (and_right (bytes_eq p q) false refl))
    (and_left (bytes_eq q p && false) (1 == v) (and_right (bytes_eq q p) false refl))

-- A principal's letter is its own.
pub same_letter : (m n : ℕ) → letter m ≡ letter n → m ≡ n
same_letter m n h = let e : 97 + m ≡ 97 + n = cc in omega arith

other_letter : (m n s v : ℕ) → (m ≡ n → ⊥) → opens (Principal (letter m)) (Version (letter n) s v) ≡ false
other_letter m n s v h = or_from (bytes_eq (letter m) (letter n)) false
    (false_from_ne_true (bytes_eq (letter m) (letter n)) (λ e. h (same_letter m n ((bytes_eq-Decides (letter m) (letter n)).0 e)))) refl

own_letter : (n s v : ℕ) → opens (Principal (letter n)) (Version (letter n) s v) ≡ true
own_letter n s v = or_left (bytes_eq (letter n) (letter n)) false ((bytes_eq-Decides (letter n) (letter n)).1 refl)

-- The versions of names open the names that they are for.
versions_of_names-from : (reads : Atom → Bool) (names number : ℕ) → names ≤ number → is_open_to (versions_of_names reads names) (Principal (letter number)) ≡ false
versions_of_names-from reads zero number h = refl
versions_of_names-from reads (suc names) number h =
    is_open_to-with (reads (Name names)) (place_for (Name names)) (versions_of_names reads names) (Principal (letter number))
    ∙ or_from (reads (Name names) && opens (Principal (letter number)) (place_for (Name names))) (is_open_to (versions_of_names reads names) (Principal (letter number)))
    (and_right (reads (Name names)) (opens (Principal (letter number)) (place_for (Name names))) (other_letter number names 2 1 (λ e. omega arith)))
    (versions_of_names-from reads names number (omega arith))

last_name : (reads : Atom → Bool) (names number : ℕ) → number ≡ names
    → is_open_to (versions_of_names reads (suc names)) (Principal (letter number))
    ≡ (reads (Name names) && opens (Principal (letter number)) (place_for (Name names)) || is_open_to (versions_of_names reads names) (Principal (letter number)))
    → is_open_to (versions_of_names reads (suc names)) (Principal (letter number)) ≡ reads (Name number)
last_name reads names number same step =
    let rest = versions_of_names-from reads names number (omega arith) in
    let P : ℕ → Type 0 = λ n. opens (Principal (letter number)) (Version (letter n) 2 1) ≡ true in
    let on = subst P same (own_letter number 2 1) in
    let value = ap reads (ap Name same) in
    elim (cases_Bool (reads (Name names))) [ inl yes_open ↦ cc | inr not_open ↦ cc ]

versions_of_names-below : (reads : Atom → Bool) (names number : ℕ) → number < names → is_open_to (versions_of_names reads names) (Principal (letter number)) ≡ reads (Name number)
versions_of_names-below reads zero number h = absurd (omega arith)
versions_of_names-below reads (suc names) number h =
    let step = is_open_to-with (reads (Name names)) (place_for (Name names)) (versions_of_names reads names) (Principal (letter number)) in
    elim (cases_eq number names) [
      | inl same ↦ last_name reads names number same step
      | inr other ↦
          let closed = other_letter number names 2 1 other in
          let rest = versions_of_names-below reads names number (omega arith) in
          let off = and_right (reads (Name names)) (opens (Principal (letter number)) (place_for (Name names))) closed in cc
    ]

-- ---- the words that these versions open are those that were asked for

session_value : (s p n : Bool) → (p ≡ true → s ≡ true) → (n ≡ true → s ≡ true) → (s && true || (p && true || (n && true || false))) ≡ s
session_value true p n a b = refl
session_value false true n a b = let bad = a refl in cc
session_value false false true a b = let bad = b refl in cc
session_value false false false a b = refl

own_value : (s p n o : Bool) → (p ≡ true → s ≡ true) → (n ≡ true → s ≡ true) → (s ≡ true → o ≡ true) → (s && true || (p && true || (n && true || o))) ≡ o
own_value true p n o a b c = sym (c refl)
own_value false true n o a b c = let bad = a refl in cc
own_value false false true o a b c = let bad = b refl in cc
own_value false false false o a b c = refl

closed_part : (x rest : Bool) → (x && false || rest) ≡ rest
closed_part true rest = refl
closed_part false rest = refl

open_part : (x : Bool) → (x && true || false) ≡ x
open_part true = refl
open_part false = refl

name_value : (s p n o : Bool) → (s && false || (p && false || (n && false || o))) ≡ o
name_value s p n o = closed_part s (p && false || (n && false || o)) ∙ closed_part p (n && false || o) ∙ closed_part n o

prior_value : (s p n : Bool) → (s && false || (p && true || (n && false || false))) ≡ p
prior_value s p n = closed_part s (p && true || (n && false || false)) ∙ ap (λ rest. p && true || rest) (closed_part n false) ∙ open_part p

next_value : (s p n : Bool) → (s && false || (p && false || (n && true || false))) ≡ n
next_value s p n = closed_part s (p && false || (n && true || false)) ∙ closed_part p (n && true || false) ∙ open_part n

number_given : (reads : Atom → Bool) (names number : ℕ) → number < names
    → (reads Prior ≡ true → reads ThisSession ≡ true) → (reads Next ≡ true → reads ThisSession ≡ true) → (reads ThisSession ≡ true → reads (Name 0) ≡ true)
    → is_word_open letters (versions reads names) (Name number) ≡ reads (Name number)
number_given reads names zero h a b c =
    is_open_to-versions reads names (Principal (letter 0))
    ∙ ap (λ o. reads ThisSession && true || (reads Prior && true || (reads Next && true || o))) (versions_of_names-below reads names 0 h)
    ∙ own_value (reads ThisSession) (reads Prior) (reads Next) (reads (Name 0)) a b c
number_given reads names (suc number) h a b c =
    let session = other_letter (suc number) 0 1 3 (λ e. omega arith) in
    let prior = other_letter (suc number) 0 1 1 (λ e. omega arith) in
    let next = other_letter (suc number) 0 1 2 (λ e. omega arith) in
    let rest = versions_of_names-below reads names (suc number) h in
    let value = is_open_to-versions reads names (Principal (letter (suc number))) in
    let end = name_value (reads ThisSession) (reads Prior) (reads Next) (reads (Name (suc number))) in
    cc

-- Of words that keep to the law, each is opened by the versions that are for them.
pub is_word_open-versions : (reads : Atom → Bool) (names : ℕ) → keeps_law reads ≡ true
    → (atom : Atom) → is_below names atom ≡ true → is_word_open letters (versions reads names) atom ≡ reads atom
is_word_open-versions reads names law (Name number) h =
    let parts = law_parts (reads Prior) (reads Next) (reads ThisSession) (reads (Name 0)) law in
    number_given reads names number (ltb-true number names h) parts.0 parts.1 parts.2
is_word_open-versions reads names law ThisSession h =
    let parts = law_parts (reads Prior) (reads Next) (reads ThisSession) (reads (Name 0)) law in
    is_open_to-versions reads names (Session (letter 0) 1)
    ∙ ap (λ o. reads ThisSession && true || (reads Prior && true || (reads Next && true || o))) (versions_of_names-apart (Session (letter 0) 1) (session-apart (letter 0)) reads names)
    ∙ session_value (reads ThisSession) (reads Prior) (reads Next) parts.0 parts.1
is_word_open-versions reads names law Prior h =
    is_open_to-versions reads names (Version (letter 0) 1 1)
    ∙ ap (λ o. reads ThisSession && false || (reads Prior && true || (reads Next && false || o))) (versions_of_names-apart (Version (letter 0) 1 1) (version-apart (letter 0) 1) reads names)
    ∙ prior_value (reads ThisSession) (reads Prior) (reads Next)
is_word_open-versions reads names law Next h =
    is_open_to-versions reads names (Version (letter 0) 1 2)
    ∙ ap (λ o. reads ThisSession && false || (reads Prior && false || (reads Next && true || o))) (versions_of_names-apart (Version (letter 0) 1 2) (version-apart (letter 0) 2) reads names)
    ∙ next_value (reads ThisSession) (reads Prior) (reads Next)

pub KeepsApart-letters : (names : ℕ) → KeepsApart names letters
KeepsApart-letters names = λ number other h k e. same_letter number other e
