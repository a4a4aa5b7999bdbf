-- What an instance sees of the trace before its Start: its States and its Certs.
use Rattle.std.specs.Prelude.{◌≡◌, ℕ, ◌+◌, ◌<◌, ◌^◌, Bool, false, not, ◌&&◌, List, Option, Some, None}
use Rattle.std.specs.Prelude.{slice_get, find, if◌then◌else◌}
use Rattle.std.specs.Option.{option_map, option_and_then}
use Rattle.std.specs.List.{list_any}
use Rattle.std.specs.Str.{bytes_eq}
use Rattle.dy_term.specs.Terms.{Term}
use Rattle.dy_label.specs.StateOrder.{comes_before}
use Rattle.dy_syntax.specs.Statements.{OnPart, Pattern}
use Rattle.dy_entry.specs.Entries.{Entry, State, Cert}
use Rattle.dy_entry.specs.LookUps.{state_at, newest, find_cert}
use Rattle.dy_eval.specs.Doings.{Effect}
use Rattle.dy_eval.specs.Names.{Names}
use Rattle.dy_eval.specs.Patterns.{fits, match_if}

-- what is stored: a tag and fields, as a version of a session
pub record Stored : Type 0 where
  pub tag : List ℕ
  pub session : ℕ
  pub version : ℕ
  pub fields : List Term

-- what an entry stores, if it is a State
abbrev pub stored_by : Entry → Option Stored
stored_by (State instance principal session version tag fields) =
    Some (record { tag = tag; session = session; version = version; fields = fields })
stored_by e = None

-- the key that an entry certifies, if it is a Cert
abbrev pub key_certified : Entry → Option Term
key_certified (Cert instance principal usage key) = Some key
key_certified e = None

-- the State at an index
abbrev pub state_in : List Entry → ℕ → Option Stored
state_in X index = option_and_then stored_by (slice_get X index)

-- the key of the Cert at an index
abbrev pub cert_in : List Entry → ℕ → Option Term
cert_in X index = option_and_then key_certified (slice_get X index)

-- the fields of what is stored, if it has this tag
abbrev pub fields_tagged : List ℕ → Stored → Option (List Term)
fields_tagged tag stored = if bytes_eq stored.tag tag then Some stored.fields else None

-- `on`: the newest version of the session, which must have this tag and match
abbrev pub go_on : List Entry → Names → OnPart → Effect
go_on X names on =
    let found = state_at X names.principal names.session (newest X names.principal names.session) in
    match_if names on.pats (option_and_then (fields_tagged on.state.word) (option_and_then (state_in X) found))

-- `find`: the first certificate of a principal for a usage
abbrev pub key_of : List Entry → List ℕ → List ℕ → Option Term
key_of X principal usage = option_and_then (cert_in X) (find_cert X principal usage)

-- the entry is a State of this tag and of this instance's principal, and matches
abbrev pub matches : Names → List ℕ → List Pattern → Entry → Bool
matches names tag patterns (State instance principal session version t fields) =
    (bytes_eq principal names.principal && bytes_eq t tag) && fits names patterns fields
matches names tag patterns e = false

-- of two States, the first comes before the second in the order of look-ups
abbrev pub stored_before : Entry → Entry → Bool
stored_before (State i p session version t f) (State j q other_session other_version u g) =
    comes_before (session, version) (other_session, other_version)
stored_before _ _ = false

-- The entry matches, and no other that matches comes before it.
abbrev pub matches_first : List Entry → Names → List ℕ → List Pattern → Entry → Bool
matches_first X names tag patterns e =
    matches names tag patterns e
    && not (list_any (λ other. matches names tag patterns other && stored_before other e) X)

-- `use`: of the States that match, that of the least session and, within it, of the greatest version
abbrev pub recall : List Entry → Names → List ℕ → List Pattern → Effect
recall X names tag patterns =
    let found = find (matches_first X names tag patterns) X in
    match_if names patterns (option_map (λ s. s.fields) (option_and_then stored_by found))

-- No two States are the same version of the same session of one principal.
abbrev pub HasEachVersionOnce : List Entry → Type 0
HasEachVersionOnce X =
    (i j instance other_instance : ℕ) (principal : List ℕ) (session version : ℕ) (tag other_tag : List ℕ)
    (fields other_fields : List Term)
    → slice_get X i ≡ Some (State instance principal session version tag fields)
    → slice_get X j ≡ Some (State other_instance principal session version other_tag other_fields)
    → i ≡ j

-- The next version of this session has a number below 2^32.
abbrev pub HasRoomForNext : List Entry → List ℕ → ℕ → Type 0
HasRoomForNext X principal session = newest X principal session + 1 < 2 ^ 32
