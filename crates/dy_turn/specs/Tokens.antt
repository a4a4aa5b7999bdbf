-- What the steps ask of the table and of the token that a seat steps with.
use Rattle.std.specs.Prelude.{◌≡◌, ℕ, ◌<◌, Option, Some, List, [], ◌∷◌}
use Rattle.atomic_table.specs.Seated.{TableId}
use Rattle.atomic_table.specs.declared.shared.Seat.{Seat}
use Rattle.dy_turn.specs.declared.known.Origin.{Origin}
use Rattle.dy_turn.specs.declared.known.Stage.TheVariants.{Waiting, Working}
use Rattle.dy_turn.specs.declared.known.Known.{Known}
use Rattle.dy_turn.specs.Views.{ticket_of}

-- three words and one slot
abbrev pub IsSized : TableId → Type 0
IsSized table = (table.words ≡ 3) × (table.slots ≡ 1)

abbrev pub Token : Type 0 → Type 0 → Type 0
Token T I = Seat (Option T) (Known T I)

module _ {T I : Type 0} where
  -- it steps on this table, for a seat that is not spent
  abbrev pub StepsOn : TableId → Token T I → Type 0
  StepsOn table token = IsSized table × (token.table_id ≡ table) × (0 < token.me.0.parts)

  abbrev pub IsSame : Token T I → Token T I → Type 0
  IsSame old new = (new.table_id ≡ old.table_id) × (new.id ≡ old.id)

  -- the seat waits with the ticket of which this is the remainder
  abbrev pub WaitsFor : Token T I → Type 0
  WaitsFor token = token.me.0.stage ≡ Waiting (ticket_of token.me.0.stage)

  abbrev pub Works : Token T I → Type 0
  Works token = (ticket : ℕ) × (token.me.0.stage ≡ Working ticket)

  -- the value that the seat holds in its slot stands for what it has seen
  pub record HoldsValue (history : T → List I) (same_base : T → T → Type 0) (token : Token T I) : Type 0 where
    pub value : T
    pub carried : token.me.1 ≡ (0, Some value) ∷ []
    pub shown : history value ≡ token.me.0.saw
    pub based : (origin : Origin T) → token.me.0.origin ≡ Some origin → same_base origin.first.value value
