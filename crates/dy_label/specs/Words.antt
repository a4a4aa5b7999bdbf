-- Labels over the words of a handler, what they stand for, and when one implies another.
use Rattle.std.specs.Prelude.{◌≡◌, ℕ, ◌<◌, Bool, true, false, nat_lt, ◌&&◌, List, Some}
use Rattle.std.specs.List.{list_all}
use Rattle.dy_label.specs.Labels.{Place, Principal, Session, Version, is_open_to}
use Rattle.dy_label.specs.Labels.{LabelOf, Public, Nobody, One, Join, Meet, Label, with_readers, is_open}

-- A word that reads in a handler. Name 0 is the handler's own principal, `self`.
pub data Atom : Type 0 where
  Name : (number : ℕ) → Atom
  ThisSession : Atom
  Next : Atom
  Prior : Atom

-- a label over a handler's words
abbrev pub StaticLabel : Type 0
StaticLabel = LabelOf Atom

-- the word is no name from this number on
abbrev pub is_below : ℕ → Atom → Bool
is_below names (Name number) = nat_lt number names
is_below names ThisSession = true
is_below names Next = true
is_below names Prior = true

-- The label uses names below this number alone.
abbrev pub uses_names_below : ℕ → StaticLabel → Bool
uses_names_below names Public = true
uses_names_below names Nobody = true
uses_names_below names (One atom) = is_below names atom
uses_names_below names (Join first second) = uses_names_below names first && uses_names_below names second
uses_names_below names (Meet first second) = uses_names_below names first && uses_names_below names second

-- What a handler's words may stand for. Different names may be given the same principal.
pub record Choice : Type 0 where
  pub principals : ℕ → List ℕ
  pub session : ℕ
  pub prior : ℕ
  pub next : ℕ
  pub rises : prior < next

abbrev pub place_of : Choice → Atom → Place
place_of choice (Name number) = Principal (choice.principals number)
place_of choice ThisSession = Session (choice.principals 0) choice.session
place_of choice Next = Version (choice.principals 0) choice.session choice.next
place_of choice Prior = Version (choice.principals 0) choice.session choice.prior

-- Different names below this number are given different principals.
abbrev pub KeepsApart : ℕ → Choice → Type 0
KeepsApart names choice = (number other : ℕ) → number < names → other < names
    → choice.principals number ≡ choice.principals other → number ≡ other

-- the label that a label over a handler's words stands for
abbrev pub meaning_of : Choice → StaticLabel → Label
meaning_of choice label = with_readers (λ atom. Some (place_of choice atom)) label

-- some of these corruptions opens what the word stands for
abbrev pub is_word_open : Choice → List Place → Atom → Bool
is_word_open choice corruptions atom = is_open_to corruptions (place_of choice atom)

-- The first label implies the second: for every choice and all corruptions, where the one is open so is the other.
abbrev pub Implies : StaticLabel → StaticLabel → Type 0
Implies first second = (choice : Choice) (corruptions : List Place)
    → is_open corruptions (meaning_of choice first) ≡ true
    → is_open corruptions (meaning_of choice second) ≡ true

abbrev pub is_version : Place → Bool
is_version (Principal principal) = false
is_version (Session principal session) = false
is_version (Version principal session version) = true

-- The first label implies the second as far as corruptions of single versions go.
abbrev pub ImpliesByVersions : StaticLabel → StaticLabel → Type 0
ImpliesByVersions first second =
    (choice : Choice) (corruptions : List Place) → list_all is_version corruptions ≡ true
    → is_open corruptions (meaning_of choice first) ≡ true
    → is_open corruptions (meaning_of choice second) ≡ true
