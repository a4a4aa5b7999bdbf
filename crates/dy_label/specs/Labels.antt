-- Labels: who may read a value, and when corruptions have opened it to the attacker.
use Rattle.std.specs.Prelude.{ℕ, Bool, true, false, ◌&&◌, ◌||◌, ◌==◌, List, [], ◌∷◌, Option, Some, None}
use Rattle.std.specs.List.{list_any}
use Rattle.std.specs.Str.{bytes_eq}

-- Where values are kept: with a principal, in one of its sessions, or in one version of a session's state. Readers
-- and corruptions both name places.
pub data Place : Type 0 where
  Principal : (principal : List ℕ) → Place
  Session : (principal : List ℕ) (session : ℕ) → Place
  Version : (principal : List ℕ) (session version : ℕ) → Place

-- The first place is the second, or the second lies within it.
abbrev pub covers : Place → Place → Bool
covers (Principal p) (Principal q) = bytes_eq p q
covers (Principal p) (Session q s) = bytes_eq p q
covers (Principal p) (Version q s v) = bytes_eq p q
covers (Session p s) (Principal q) = false
covers (Session p s) (Session q t) = bytes_eq p q && (s == t)
covers (Session p s) (Version q t v) = bytes_eq p q && (s == t)
covers (Version p s v) (Principal q) = false
covers (Version p s v) (Session q t) = false
covers (Version p s v) (Version q t w) = bytes_eq p q && (s == t) && (v == w)

-- A corruption opens a reader where one of the two covers the other.
abbrev pub opens : Place → Place → Bool
opens reader corruption = covers reader corruption || covers corruption reader

-- some of these corruptions covers the place
abbrev pub is_covered_by : List Place → Place → Bool
is_covered_by corruptions place = list_any (λ corruption. covers corruption place) corruptions

-- A label over readers of any kind: a join is open when one of its parts is, a meet when both are.
pub data LabelOf (A : Type 0) : Type 0 where
  Public : LabelOf A
  Nobody : LabelOf A
  One : (reader : A) → LabelOf A
  Join : (first second : LabelOf A) → LabelOf A
  Meet : (first second : LabelOf A) → LabelOf A

-- whether a label is open, where it is said which readers are
abbrev pub is_open_where : {A : Type 0} → (A → Bool) → LabelOf A → Bool
is_open_where reads Public = true
is_open_where reads Nobody = false
is_open_where reads (One reader) = reads reader
is_open_where reads (Join first second) = is_open_where reads first || is_open_where reads second
is_open_where reads (Meet first second) = is_open_where reads first && is_open_where reads second

-- the label of this reader, or `nobody` where there is none
abbrev pub one_or_nobody : {A : Type 0} → Option A → LabelOf A
one_or_nobody None = Nobody
one_or_nobody (Some reader) = One reader

-- the label with other readers in the place of its own; what has none in its place is for nobody
abbrev pub with_readers : {A B : Type 0} → (A → Option B) → LabelOf A → LabelOf B
with_readers reader_for Public = Public
with_readers reader_for Nobody = Nobody
with_readers reader_for (One reader) = one_or_nobody (reader_for reader)
with_readers reader_for (Join first second) = Join (with_readers reader_for first) (with_readers reader_for second)
with_readers reader_for (Meet first second) = Meet (with_readers reader_for first) (with_readers reader_for second)

-- a label of a trace, whose readers are places
abbrev pub Label : Type 0
Label = LabelOf Place

-- some of these corruptions opens the reader
abbrev pub is_open_to : List Place → Place → Bool
is_open_to corruptions reader = list_any (opens reader) corruptions

-- whether a label is open under these corruptions
abbrev pub is_open : List Place → Label → Bool
is_open corruptions label = is_open_where (is_open_to corruptions) label

-- Of two or more labels, the last one first, the last two made one.
abbrev pub with_last_two : (Label → Label → Label) → List Label → List Label
with_last_two whole (second ∷ first ∷ before) = whole first second ∷ before
with_last_two whole _ = []
