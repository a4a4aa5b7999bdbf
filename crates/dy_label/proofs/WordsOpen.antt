-- A label over a handler's words is open as its words are.
use Rattle.std.proofs.Common.{◌≡◌, ℕ, ◌+◌, ◌≤◌, Bool, true, ◌&&◌, List, Some, refl, arith}
use Rattle.std.proofs.lemmas.Bool.{and_parts, and_from, lt-ltb, ltb-true}
use Rattle.dy_label.specs.Labels.{Place, Public, Nobody, One, Join, Meet, is_open_where, is_open, is_open_to}
use Rattle.dy_label.specs.Words.{Atom, Name, ThisSession, Next, Prior, StaticLabel, Choice, place_of, meaning_of, is_word_open, is_below, uses_names_below}
use Rattle.dy_label.proofs.LabelsOpen.{open-with_readers}

-- what a label stands for is open as the places are that its words stand for
pub open-meaning_of : (choice : Choice) (corruptions : List Place) (label : StaticLabel)
    → is_open corruptions (meaning_of choice label) ≡ is_open_where (is_word_open choice corruptions) label
open-meaning_of choice corruptions label = open-with_readers (λ atom. Some (place_of choice atom)) (is_open_to corruptions) label

-- A label is open alike where the words that it may use are open alike.
pub open-alike : (reads other : Atom → Bool) (names : ℕ) → ((atom : Atom) → is_below names atom ≡ true → reads atom ≡ other atom)
    → (label : StaticLabel) → uses_names_below names label ≡ true → is_open_where reads label ≡ is_open_where other label
open-alike reads other names alike Public h = refl
open-alike reads other names alike Nobody h = refl
open-alike reads other names alike (One atom) h = alike atom h
open-alike reads other names alike (Join l m) h =
    let parts = and_parts (uses_names_below names l) (uses_names_below names m) h in
    let in_l = open-alike reads other names alike l parts.0 in
    let in_m = open-alike reads other names alike m parts.1 in cc
open-alike reads other names alike (Meet l m) h =
    let parts = and_parts (uses_names_below names l) (uses_names_below names m) h in
    let in_l = open-alike reads other names alike l parts.0 in
    let in_m = open-alike reads other names alike m parts.1 in cc

is_below-more : (names more : ℕ) → names ≤ more → (atom : Atom) → is_below names atom ≡ true → is_below more atom ≡ true
is_below-more names more h (Name number) k = let below = ltb-true number names k in lt-ltb number more (omega arith)
is_below-more names more h ThisSession k = refl
is_below-more names more h Next k = refl
is_below-more names more h Prior k = refl

pub uses_names_below-more : (names more : ℕ) → names ≤ more → (label : StaticLabel) → uses_names_below names label ≡ true → uses_names_below more label ≡ true
uses_names_below-more names more h Public k = refl
uses_names_below-more names more h Nobody k = refl
uses_names_below-more names more h (One atom) k = is_below-more names more h atom k
uses_names_below-more names more h (Join l m) k =
    let parts = and_parts (uses_names_below names l) (uses_names_below names m) k in
    and_from (uses_names_below more l) (uses_names_below more m) (uses_names_below-more names more h l parts.0) (uses_names_below-more names more h m parts.1)
uses_names_below-more names more h (Meet l m) k =
    let parts = and_parts (uses_names_below names l) (uses_names_below names m) k in
    and_from (uses_names_below more l) (uses_names_below more m) (uses_names_below-more names more h l parts.0) (uses_names_below-more names more h m parts.1)

word_limit : (atom : Atom) → (names : ℕ) × (is_below names atom ≡ true)
word_limit (Name number) = (number + 1, lt-ltb number (number + 1) (omega arith))
word_limit ThisSession = (0, refl)
word_limit Next = (0, refl)
word_limit Prior = (0, refl)

-- One number is a limit for the names of two labels where each has a limit.
common_limit : (l m : StaticLabel) → (names : ℕ) × (uses_names_below names l ≡ true) → (names : ℕ) × (uses_names_below names m ≡ true)
    → (names : ℕ) × ((uses_names_below names l && uses_names_below names m) ≡ true)
common_limit l m in_l in_m =
    let names = in_l.0 + in_m.0 in (
      names,
      and_from (uses_names_below names l) (uses_names_below names m)
          (uses_names_below-more in_l.0 names (omega arith) l in_l.1) (uses_names_below-more in_m.0 names (omega arith) m in_m.1),
    )

-- The names of a label are below some number.
pub name_limit : (label : StaticLabel) → (names : ℕ) × (uses_names_below names label ≡ true)
name_limit Public = (0, refl)
name_limit Nobody = (0, refl)
name_limit (One atom) = word_limit atom
name_limit (Join l m) = common_limit l m (name_limit l) (name_limit m)
name_limit (Meet l m) = common_limit l m (name_limit l) (name_limit m)
