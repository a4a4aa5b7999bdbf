-- What seats know, as plain data.
use Rattle.std.specs.Prelude.{◌≡◌, ℕ, ◌+◌, ◌-◌, ◌≤◌, true, Option, Some, None, List, [], ◌∷◌, ◌++◌, length}
use Rattle.dy_turn.specs.declared.known.Origin.{Origin}
use Rattle.dy_turn.specs.declared.known.Stage.{Stage}
use Rattle.dy_turn.specs.declared.known.Stage.TheVariants.{Idle, Waiting, Working}
use Rattle.dy_turn.specs.declared.known.Known.{Known}
use Rattle.dy_turn.specs.Histories.{longer_of, shorter_of}
use Rattle.dy_turn.specs.Indices.{one_if_same, one_if_between, times, is_rising, union_of}

-- 1 for a seat that waits
abbrev pub one_if_waiting : Stage → ℕ
one_if_waiting (Waiting mine) = 1
one_if_waiting _ = 0

-- 1 for a seat that waits with this ticket
abbrev pub one_if_waiting_with : ℕ → Stage → ℕ
one_if_waiting_with ticket (Waiting mine) = one_if_same mine ticket
one_if_waiting_with ticket _ = 0

-- 1 for a seat that has the turn by this ticket
abbrev pub one_if_working_with : ℕ → Stage → ℕ
one_if_working_with ticket (Working mine) = one_if_same mine ticket
one_if_working_with ticket _ = 0

-- the ticket of a seat that waits
abbrev pub ticket_of : Stage → ℕ
ticket_of (Waiting mine) = mine
ticket_of _ = 0

module _ {T : Type 0} where
  -- the length of the history when the turn was made
  abbrev pub start_of : Option (Origin T) → ℕ
  start_of (Some origin) = origin.start
  start_of None = 0

  -- how many seats the turn was made for
  abbrev pub seats_of : Option (Origin T) → ℕ
  seats_of (Some origin) = origin.seats
  seats_of None = 0

-- What each seat adds to a sum over all of them.
module _ {T I : Type 0} where
  -- how many seats wait
  abbrev pub waiters : Known T I → ℕ
  waiters known = one_if_waiting known.stage

  -- how many wait with this ticket
  abbrev pub waiters_with : ℕ → Known T I → ℕ
  waiters_with ticket known = one_if_waiting_with ticket known.stage

  -- how many have the turn by this ticket
  abbrev pub workers_with : ℕ → Known T I → ℕ
  workers_with ticket known = one_if_working_with ticket known.stage

  -- of how many this index is their own
  abbrev pub owners : ℕ → Known T I → ℕ
  owners index known = times index known.own

  -- the seat, and how many it may still make
  abbrev pub parts : Known T I → ℕ
  parts known = known.parts

-- The indices that are the seat's own rise. Each of them is one since the turn was made, and the seat has seen it.
-- Of a seat that has all parts these are all such indices.
pub record OwnFits {T I : Type 0} (known : Known T I) : Type 0 where
  pub started : start_of known.origin ≤ length known.saw
  pub rising : is_rising known.own ≡ true
  pub few : known.parts ≤ seats_of known.origin
  pub only : (k : ℕ) → times k known.own ≤ one_if_between (start_of known.origin) (length known.saw) k
  pub all :
      known.parts ≡ seats_of known.origin
      → (k : ℕ) → times k known.own ≡ one_if_between (start_of known.origin) (length known.saw) k

-- How views change.
module _ {T I : Type 0} where
  -- the first seat, which has seen the history of the first value
  abbrev pub first_seat : List I → Origin T → Known T I
  first_seat log origin =
      record { origin = Some origin; saw = log; told = []; own = []; parts = origin.seats; stage = Idle }

  -- the seat at this stage
  abbrev pub at_stage : Known T I → Stage → Known T I
  at_stage known stage = record known { stage = stage }

  -- the seat once it has seen this history
  abbrev pub after_seeing : Known T I → List I → Known T I
  after_seeing known log = record known { saw = log }

  -- the seat once it has appended the last item of this history
  abbrev pub after_marking : Known T I → List I → Known T I
  after_marking known log = record known { saw = log; own = known.own ++ length known.saw ∷ [] }

  -- what is left of a seat of which this many parts were split off
  abbrev pub rest_of : ℕ → Known T I → Known T I
  rest_of amount known = record known { parts = known.parts - amount }

  -- a seat with so many parts that was split off
  abbrev pub new_seat : ℕ → Known T I → Known T I
  new_seat amount known =
      record { origin = known.origin; saw = known.saw; told = []; own = []; parts = amount; stage = Idle }

  -- both seats as one
  abbrev pub both_seats : Known T I → Known T I → Known T I
  both_seats known other = record {
    origin = known.origin;
    saw = longer_of known.saw other.saw;
    told = shorter_of known.saw other.saw;
    own = union_of known.own other.own;
    parts = known.parts + other.parts;
    stage = known.stage;
  }

  -- a seat that was joined to another
  abbrev pub spent_seat : Known T I
  spent_seat = record { origin = None; saw = []; told = []; own = []; parts = 0; stage = Idle }
