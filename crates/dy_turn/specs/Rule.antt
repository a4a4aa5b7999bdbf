-- The rule of the table: what holds of its words, its slot and what all seats know, between any two steps.
use Rattle.std.specs.Prelude.{◌≡◌, ◌≢◌, ◌↔◌, ℕ, ◌+◌, ◌%◌, ◌^◌, ◌<◌, ◌≤◌, true}
use Rattle.std.specs.Prelude.{Option, Some, List, [], ◌∷◌, length, sum_by}
use mathlib.Core.Option as maybe
use mathlib.Core.Option.{some, none}
use mathlib.Core.List.{IsPrefix}
use lib.ListN.{get_elem?}
use Rattle.atomic_table.specs.Table.{State}
use Rattle.dy_turn.specs.declared.known.Origin.{Origin}
use Rattle.dy_turn.specs.declared.known.Stage.TheVariants.{Idle, Working}
use Rattle.dy_turn.specs.declared.known.Known.{Known}
use Rattle.dy_turn.specs.Indices.{one_if_between, times, is_rising}
use Rattle.dy_turn.specs.Views.{waiters, waiters_with, workers_with, owners, parts}

module _ {T I : Type 0} where
  -- What holds of a seat that is not spent.
  pub record IsLive (origin : Origin T) (log : List I) (known : Known T I) : Type 0 where
    -- It is one of this turn.
    pub same : known.origin ≡ Some origin
    -- It has seen a prefix of the history, all of it while it has the turn.
    pub seen : IsPrefix known.saw log
    pub whole : (ticket : ℕ) → known.stage ≡ Working ticket → known.saw ≡ log
    -- What the other of two joined seats had seen is a prefix of that.
    pub told : IsPrefix known.told known.saw
    -- It has seen the history of the first value.
    pub started : origin.start ≤ length known.saw
    -- Its own indices rise, and it has seen their items.
    pub rising : is_rising known.own ≡ true
    pub bound : (k : ℕ) → length known.saw ≤ k → times k known.own ≡ 0

  -- A spent seat has no index and no ticket.
  pub record IsSpent (known : Known T I) : Type 0 where
    pub nothing : known.own ≡ []
    pub idle : known.stage ≡ Idle

  abbrev pub Fits : Origin T → List I → Known T I → Type 0
  Fits origin log known = (0 < known.parts → IsLive origin log known) × (known.parts ≡ 0 → IsSpent known)

  -- In the slot lies a value that stands for the history.
  abbrev pub IsHome : (T → List I) → (T → T → Type 0) → T → List I
      → List (maybe.Option (Option T)) → Type 0
  IsHome history same_base first log homes =
      (value : T) × (homes ≡ some (Some value) ∷ []) × (history value ≡ log) × same_base first value

  pub record IsTurned
      (history : T → List I)
      (same_base : T → T → Type 0)
      (origin : Origin T)
      (s : State (Option T) (Known T I)) : Type 0 where
    -- The history. How many tickets were drawn and served, without bound. The first ticket that does not work yet.
    pub log : List I
    pub drawn : ℕ
    pub served : ℕ
    pub next : ℕ
    -- The words have the length of the history, and the two numbers modulo 2^64.
    pub words : s.words ≡ length log ∷ (drawn % 2 ^ 64) ∷ (served % 2 ^ 64) ∷ []
    -- At most one ticket works, the one that is served.
    pub order : (served ≤ next) × (next ≤ served + 1)
    -- Each seat that waits has one ticket, and each ticket that waits or works is that of one seat.
    pub line : drawn ≡ next + sum_by waiters s.views
    pub waiting : (k : ℕ) → sum_by (waiters_with k) s.views ≡ one_if_between next drawn k
    pub working : (k : ℕ) → sum_by (workers_with k) s.views ≡ one_if_between served next k
    -- While no seat has the turn, the value is in the slot. Else that seat has the slot.
    pub home : next ≡ served → IsHome history same_base origin.first.value log s.homes
    pub away : served < next → s.homes ≡ none ∷ []
    -- Each index since the turn was made is one seat's own.
    pub owned : (k : ℕ) → sum_by (owners k) s.views ≡ one_if_between origin.start (length log) k
    -- All seats and their rooms together are what the turn was made for.
    pub rooms : sum_by parts s.views ≡ origin.seats
    pub few : origin.seats ≤ 80
    pub each : (seat : ℕ) (known : Known T I) → get_elem? s.views seat ≡ some known → Fits origin log known

  -- In each table that the rule allows a seat has all parts exactly where each other seat is spent.
  abbrev pub AllOrSpent : (T → List I) → (T → T → Type 0) → Type 0
  AllOrSpent history same_base =
      (origin : Origin T) (s : State (Option T) (Known T I)) → IsTurned history same_base origin s
      → (i : ℕ) (v : Known T I) → get_elem? s.views i ≡ some v
      → (v.parts ≡ origin.seats)
      ↔ ((j : ℕ) (u : Known T I) → j ≢ i → get_elem? s.views j ≡ some u → u.parts ≡ 0)

  -- In no table that the rule allows do two seats have the turn.
  abbrev pub OneWorks : (T → List I) → (T → T → Type 0) → Type 0
  OneWorks history same_base =
      (origin : Origin T) (s : State (Option T) (Known T I)) → IsTurned history same_base origin s
      → (i j : ℕ) (v w : Known T I) → get_elem? s.views i ≡ some v → get_elem? s.views j ≡ some w
      → (m n : ℕ) → v.stage ≡ Working m → w.stage ≡ Working n → i ≡ j
