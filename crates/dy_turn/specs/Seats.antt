-- What clauses say of turns and seats.
use Rattle.std.specs.Prelude.{◌≡◌, ℕ, ◌+◌, ◌≤◌, true, Some, None, List, [], ◌∷◌, length}
use Rattle.dy_turn.specs.declared.known.Stage.TheVariants.{Idle, Working}
use Rattle.dy_turn.specs.declared.counted.Counted.{Ghosts}
use Rattle.dy_turn.specs.declared.seats.Seat.{Seat}
use Rattle.dy_turn.specs.declared.turns.Turn.{Turn}
use Rattle.dy_turn.specs.Indices.{one_if_between, times, is_rising}

module _ {T I : Type 0} where
  -- the value that the turn was made with
  abbrev pub first_value : Turn T I → T
  first_value turn = turn.board.shared.key.first.value

  -- how many items the history had then
  abbrev pub start : Turn T I → ℕ
  start turn = turn.board.shared.key.start

  -- how many seats it was made for
  abbrev pub seats : Turn T I → ℕ
  seats turn = turn.board.shared.key.seats

module _ {T I : Type 0} {g : Ghosts T I} where
  -- what the seat has seen of the history
  abbrev pub saw : Seat T I g → List I
  saw seat = seat.token.me.0.saw

  -- the indices of the items that were appended by the seat and by those that were joined to it
  abbrev pub own : Seat T I g → List ℕ
  own seat = seat.token.me.0.own

  -- how many seats it may still make
  abbrev pub room : Seat T I g → ℕ
  room seat = seat.room

  -- the seat has nothing taken
  abbrev pub IsFree : Seat T I g → Type 0
  IsFree seat = (seat.token.me.0.stage ≡ Idle) × (seat.token.me.1 ≡ [])

  -- the seat has taken the value
  abbrev pub HasTaken : Seat T I g → Type 0
  HasTaken seat = (ticket : ℕ) × (seat.token.me.0.stage ≡ Working ticket) × (seat.token.me.1 ≡ (0, None) ∷ [])

  -- the seat is one of this turn
  abbrev pub IsOf : Turn T I → Seat T I g → Type 0
  IsOf turn seat =
      (seat.token.table_id ≡ turn.board.shared.table_id) × (seat.token.me.0.origin ≡ Some turn.board.shared.key)

  -- each other seat was joined to this one
  abbrev pub HasAllRoom : Turn T I → Seat T I g → Type 0
  HasAllRoom turn seat = room seat + 1 ≡ seats turn

  -- The seat is new: it has nothing taken and nothing of its own.
  pub record IsNew (turn : Turn T I) (seat : Seat T I g) (log : List I) (size : ℕ) : Type 0 where
    pub is_of : IsOf turn seat
    pub free : IsFree seat
    pub seen : saw seat ≡ log
    pub nothing : own seat ≡ []
    pub size_is : room seat ≡ size

  -- The indices that are the seat's own rise. Each of them is one since the turn was made, and the seat has seen it.
  -- Of a seat that has all room these are all such indices.
  pub record Owns (turn : Turn T I) (seat : Seat T I g) : Type 0 where
    pub rising : is_rising (own seat) ≡ true
    pub only : (k : ℕ) → times k (own seat) ≤ one_if_between (start turn) (length (saw seat)) k
    pub all :
        HasAllRoom turn seat → (k : ℕ) → times k (own seat) ≡ one_if_between (start turn) (length (saw seat)) k
