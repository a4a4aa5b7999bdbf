-- Events that are known to have happened.
use Rattle.std.specs.Prelude.{ℕ, Bool, ◌&&◌, List, map, Option, Some, None, unwrap_or, slice_get, if◌then◌else◌}
use Rattle.std.specs.List.{filter_map}
use Rattle.std.specs.Str.{bytes_eq}
use Rattle.dy_label.specs.Words.{StaticLabel}
use Rattle.dy_types.specs.Claims.{MeetImplies}

-- The event happened with the values of these variables, or the guard is open.
pub record FactOf (L : Type 0) : Type 0 where
  pub event : List ℕ
  pub args : List ℕ
  pub guard : L

abbrev pub Fact : Type 0
Fact = FactOf StaticLabel

-- the value of a variable: the number of the first variable that is one with it, or its own
abbrev pub first_of : List ℕ → ℕ → ℕ
first_of first variable = unwrap_or (slice_get first variable) variable

-- The fact is one of this event with these values.
abbrev pub is_fact_of : {L : Type 0} → List ℕ → List ℕ → List ℕ → FactOf L → Bool
is_fact_of first event values fact = bytes_eq fact.event event && bytes_eq (map (first_of first) fact.args) values

abbrev pub guard_of : {L : Type 0} → List ℕ → List ℕ → List ℕ → FactOf L → Option L
guard_of first event values fact = if is_fact_of first event values fact then Some fact.guard else None

-- the guards of the facts of this event with these values
abbrev pub guards_of : {L : Type 0} → List ℕ → List (FactOf L) → List ℕ → List ℕ → List L
guards_of first facts event values = filter_map (guard_of first event values) facts

-- The event is known to have happened with these values, or else the label is open. Facts of one event and one list
-- of values are
-- one, with the meet of their guards. For each variable it is said which is the first that is one with it.
abbrev pub HasFact : List ℕ → List Fact → List ℕ → List ℕ → StaticLabel → Type 0
HasFact first facts event values label = MeetImplies (guards_of first facts event values) label
