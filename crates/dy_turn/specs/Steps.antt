-- What each step tells the seat that takes it.
use Rattle.std.specs.Prelude.{◌≡◌, ℕ, ◌%◌, ◌^◌, ◌==◌, Option, Some, MatchBool, List, [], ◌∷◌}
use mathlib.Core.List.{IsPrefix}
use Rattle.atomic_table.specs.Table.{Me, Step}
use Rattle.dy_turn.specs.declared.known.Origin.{Origin}
use Rattle.dy_turn.specs.declared.known.Stage.TheVariants.{Idle, Waiting, Working}
use Rattle.dy_turn.specs.declared.known.Known.{Known}
use Rattle.dy_turn.specs.Views.{OwnFits, ticket_of, at_stage, after_seeing, after_marking}

abbrev At : Type 0 → Type 0
At T = Step (Option T)

abbrev Mine : Type 0 → Type 0 → Type 0
Mine T I = Me (Option T) (Known T I)

module _ {T I : Type 0} where
  -- the seat has the ticket of which the word found is the remainder
  abbrev pub HasTicket : Mine T I → ℕ → Mine T I → Type 0
  HasTicket me found me' =
      (ticket : ℕ) × (found ≡ ticket % 2 ^ 64) × (me' ≡ (at_stage me.0 (Waiting ticket), me.1))

  abbrev pub Draws : At T → Mine T I → ℕ → Mine T I → Type 0
  Draws step me found me' = HasTicket me found me'

  -- the seat has the turn and the value, whose history it has seen
  pub record HasTurn
      (history : T → List I)
      (same_base : T → T → Type 0)
      (me : Mine T I)
      (ticket : ℕ)
      (me' : Mine T I) : Type 0 where
    pub value : T
    pub now : me' ≡ (after_seeing (at_stage me.0 (Working ticket)) (history value), (0, Some value) ∷ me.1)
    pub begins : IsPrefix me.0.saw (history value)
    pub based : (origin : Origin T) → me.0.origin ≡ Some origin → same_base origin.first.value value
    pub fits : OwnFits me'.0

  -- the seat has the turn exactly where the word found is its ticket's remainder
  abbrev pub Serves : (T → List I) → (T → T → Type 0) → At T → Mine T I → ℕ → Mine T I → Type 0
  Serves history same_base step me found me' =
      let ticket = ticket_of me.0.stage in
      MatchBool (found == ticket % 2 ^ 64) (HasTurn history same_base me ticket me') (me' ≡ me)

  -- the seat has appended the last item of this history
  abbrev pub Marks : List I → At T → Mine T I → ℕ → Mine T I → Type 0
  Marks log step me found me' = (me' ≡ (after_marking me.0 log, me.1)) × OwnFits me'.0

  -- the seat has given the value back, and has no ticket
  abbrev pub Releases : At T → Mine T I → ℕ → Mine T I → Type 0
  Releases step me found me' = me' ≡ (at_stage me.0 Idle, [])

  -- the seat is as before, and what the rule says of it is known
  abbrev pub Looks : At T → Mine T I → ℕ → Mine T I → Type 0
  Looks step me found me' = (me' ≡ me) × IsPrefix me.0.told me.0.saw × OwnFits me.0
