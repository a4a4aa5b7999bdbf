-- What is looked up in a trace.
use Rattle.std.specs.Prelude.{◌≡◌, ℕ, ◌+◌, ◌≤◌, Bool, true, false, ◌&&◌, ◌==◌, if◌then◌else◌, max}
use Rattle.std.specs.Prelude.{List, [], ◌∷◌, Option, Some, None, take, count_by}
use Rattle.std.specs.List.{slice_get, position, filter_map}
use Rattle.std.specs.Str.{bytes_eq}
use Rattle.dy_label.specs.Labels.{Place, Version, is_covered_by}
use Rattle.dy_label.specs.StateOrder.{comes_before, is_after}
use Rattle.dy_entry.specs.Entries.{Entry, Message, State, Cert, Corrupt}

-- what the attacker takes by the entry, if it is a corruption
abbrev pub corruption_of : Entry → Option Place
corruption_of (Corrupt step corruption) = Some corruption
corruption_of e = None

-- all corruptions, in order
abbrev pub corruptions : List Entry → List Place
corruptions T = filter_map corruption_of T

-- some corruption covers this version of this session of the principal
abbrev pub is_covered : List Entry → List ℕ → ℕ → ℕ → Bool
is_covered T principal session version = is_covered_by (corruptions T) (Version principal session version)

-- the entry is this version of this session of the principal
abbrev pub is_version_of : List ℕ → ℕ → ℕ → Entry → Bool
is_version_of principal session version (State instance p s v tag fields) =
    bytes_eq p principal && (s == session) && (v == version)
is_version_of principal session version e = false

-- the index of the first entry that is this version
abbrev pub state_at : List Entry → List ℕ → ℕ → ℕ → Option ℕ
state_at T principal session version = position (is_version_of principal session version) T

-- the version that the entry stores in this session of the principal, or 0
abbrev pub version_in : List ℕ → ℕ → Entry → ℕ
version_in principal session (State instance p s v tag fields) = if bytes_eq p principal && (s == session) then v else 0
version_in principal session e = 0

-- the greatest version of this session of the principal, or 0
abbrev pub newest : List Entry → List ℕ → ℕ → ℕ
newest [] principal session = 0
newest (e ∷ T) principal session = max (version_in principal session e) (newest T principal session)

-- the session and version of a State of this principal and tag
abbrev pub place_of_state : List ℕ → List ℕ → Entry → Option (ℕ × ℕ)
place_of_state principal tag (State instance p s v t fields) =
    if bytes_eq p principal && bytes_eq t tag then Some (s, v) else None
place_of_state principal tag e = None

-- At this index stands a State of this principal and tag, after what is given in the order of look-ups.
abbrev pub Fits : List Entry → List ℕ → List ℕ → Option (ℕ × ℕ) → ℕ → ℕ × ℕ → Type 0
Fits T principal tag from index at =
    (e : Entry) × (slice_get T index ≡ Some e)
    × (place_of_state principal tag e ≡ Some at) × (is_after from at ≡ true)

-- The index is that of the first State that fits in the order of look-ups, and the least one where several fit alike.
pub record IsNext (T : List Entry) (principal tag : List ℕ) (from : Option (ℕ × ℕ)) (index : ℕ) : Type 0 where
  pub at : ℕ × ℕ
  pub fits : Fits T principal tag from index at
  pub first : (other : ℕ) (other_at : ℕ × ℕ)
      → Fits T principal tag from other other_at → comes_before other_at at ≡ false
  pub least : (other : ℕ) → Fits T principal tag from other at → index ≤ other

-- No State fits.
abbrev pub HasNoNext : List Entry → List ℕ → List ℕ → Option (ℕ × ℕ) → Type 0
HasNoNext T principal tag from = (index : ℕ) (at : ℕ × ℕ) → Fits T principal tag from index at → ⊥

-- the entry is a certificate of this principal for this usage
abbrev pub is_cert_for : List ℕ → List ℕ → Entry → Bool
is_cert_for principal usage (Cert instance p u key) = bytes_eq p principal && bytes_eq u usage
is_cert_for principal usage e = false

-- the index of the first such certificate
abbrev pub find_cert : List Entry → List ℕ → List ℕ → Option ℕ
find_cert T principal usage = position (is_cert_for principal usage) T

-- the entry is a Message of this instance
abbrev pub is_message_of : ℕ → Entry → Bool
is_message_of instance (Message other value) = other == instance
is_message_of instance e = false

-- the entry is a Cert of this instance
abbrev pub is_cert_of : ℕ → Entry → Bool
is_cert_of instance (Cert other principal usage key) = other == instance
is_cert_of instance e = false

-- Of the entries that pass the test, the one at this index has this number, counted from 1.
pub record IsNth (test : Entry → Bool) (T : List Entry) (number index : ℕ) : Type 0 where
  pub entry : Entry
  pub stands : slice_get T index ≡ Some entry
  pub passes : test entry ≡ true
  pub number_is : count_by test (take index T) + 1 ≡ number

-- No entry that passes the test has this number.
abbrev pub HasNoNth : (Entry → Bool) → List Entry → ℕ → Type 0
HasNoNth test T number = (index : ℕ) → IsNth test T number index → ⊥
