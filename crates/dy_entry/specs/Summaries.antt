-- How many entries of each kind a trace has.
use Rattle.std.specs.Prelude.{ℕ, Bool, true, false, List, length, count_by}
use Rattle.dy_label.specs.declared.usages.Outcome.TheVariants as ends
use Rattle.dy_entry.specs.Entries.{Entry, Start, Fresh, Message, State, Event, Cert, End, Corrupt, Forge, Inject, Skip}

abbrev pub is_start : Entry → Bool
is_start (Start step handler principal session args message) = true
is_start e = false

abbrev pub is_fresh : Entry → Bool
is_fresh (Fresh instance label usage) = true
is_fresh e = false

abbrev pub is_message : Entry → Bool
is_message (Message instance value) = true
is_message e = false

abbrev pub is_state : Entry → Bool
is_state (State instance principal session version tag fields) = true
is_state e = false

abbrev pub is_event : Entry → Bool
is_event (Event instance principal name args) = true
is_event e = false

abbrev pub is_cert : Entry → Bool
is_cert (Cert instance principal usage key) = true
is_cert e = false

abbrev pub is_done : Entry → Bool
is_done (End instance ends.Done) = true
is_done e = false

abbrev pub is_stopped : Entry → Bool
is_stopped (End instance (ends.Stopped statement)) = true
is_stopped e = false

abbrev pub is_corrupt : Entry → Bool
is_corrupt (Corrupt step corruption) = true
is_corrupt e = false

abbrev pub is_forge : Entry → Bool
is_forge (Forge step) = true
is_forge e = false

abbrev pub is_inject : Entry → Bool
is_inject (Inject step value) = true
is_inject e = false

abbrev pub is_skip : Entry → Bool
is_skip (Skip step) = true
is_skip e = false

-- the counts of the entries of a trace, its Setup among the total alone
pub record Counts : Type 0 where
  pub total : ℕ
  pub start : ℕ
  pub fresh : ℕ
  pub message : ℕ
  pub state : ℕ
  pub event : ℕ
  pub cert : ℕ
  pub done : ℕ
  pub stopped : ℕ
  pub corrupt : ℕ
  pub forge : ℕ
  pub inject : ℕ
  pub skip : ℕ

abbrev pub counts_in : List Entry → Counts
counts_in T = record {
  total = length T;
  start = count_by is_start T;
  fresh = count_by is_fresh T;
  message = count_by is_message T;
  state = count_by is_state T;
  event = count_by is_event T;
  cert = count_by is_cert T;
  done = count_by is_done T;
  stopped = count_by is_stopped T;
  corrupt = count_by is_corrupt T;
  forge = count_by is_forge T;
  inject = count_by is_inject T;
  skip = count_by is_skip T;
}
