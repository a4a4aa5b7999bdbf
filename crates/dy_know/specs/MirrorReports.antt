-- What a report has so far, while it is made.
use Rattle.std.specs.Prelude.{◌≡◌, ℕ, ◌<◌, List, Option, Some, None, Contains}
use Rattle.dy_entry.specs.Entries.{Entry}
use Rattle.dy_recipe.specs.Moves.{Move}
use Rattle.dy_know.specs.declared.secrets.Knowing.{Knowing}
use Rattle.dy_know.specs.declared.secrets.Knowing.TheVariants as knowing
use Rattle.dy_know.specs.declared.secrets.Secret.{Secret}
use Rattle.dy_know.specs.declared.happened.Lack.{Lack}
use Rattle.dy_know.specs.Knowing.{IsHonest, IsKnownFrom, KnownFrom}
use Rattle.dy_know.specs.Breaches.{Breach, Nonce, Event, IsNonceBreach, GivesNonce, comes_before}
use Rattle.dy_know.specs.Reports.{IsInOrder, has_lesser_nonce}

-- The list has exactly the honest nonces below a limit that are among those known, in order.
pub record ListsKnownBelow (known : List ℕ) (limit : ℕ) (T : List Entry) (items : List KnownFrom) : Type 0 where
  pub in_order : IsInOrder has_lesser_nonce items
  pub honest : (k : KnownFrom) → Contains items k → IsHonest T k.nonce
  pub from : (k : KnownFrom) → Contains items k → IsKnownFrom T k.nonce k.from
  pub below : (k : KnownFrom) → Contains items k → k.nonce < limit
  pub all : (nonce : ℕ) → IsHonest T nonce → nonce < limit → Contains known nonce
      → (from : ℕ) × Contains items (record { nonce = nonce; from = from })

-- The breach is one of a nonce below the limit.
abbrev pub IsNonceBreachBelow : ℕ → List Entry → Breach → Type 0
IsNonceBreachBelow limit T (Nonce nonce from recipe) =
    (nonce < limit) × IsNonceBreach T nonce from × GivesNonce T nonce from recipe
IsNonceBreachBelow limit T (Event event partner) = ⊥

-- The list has exactly the breaches of nonces below a limit, in order.
pub record ListsNonceBreaches (limit : ℕ) (T : List Entry) (items : List Breach) : Type 0 where
  pub in_order : IsInOrder comes_before items
  pub each : (b : Breach) → Contains items b → IsNonceBreachBelow limit T b
  pub all : (nonce from : ℕ) → IsNonceBreach T nonce from → nonce < limit
      → (recipe : List Move) × Contains items (Nonce nonce from recipe)

-- the entry from which on a nonce is known, by what is kept of it
abbrev pub known_by : Knowing → Option ℕ
known_by knowing.Unknown = None
known_by (knowing.Open from) = Some from
known_by (knowing.Breach from recipe) = Some from

abbrev pub known_since : Option Secret → Option ℕ
known_since None = None
known_since (Some secret) = known_by secret.knowing

-- What is found where this is what is kept of a nonce: nothing, or its breach, with a recipe that gives the nonce.
abbrev pub IsFoundBy : List Entry → ℕ → Knowing → Option Breach → Type 0
IsFoundBy T nonce knowing.Unknown found = found ≡ None
IsFoundBy T nonce (knowing.Open from) found = found ≡ None
IsFoundBy T nonce (knowing.Breach from recipe) found =
    (moves : List Move) × (found ≡ Some (Nonce nonce from moves)) × GivesNonce T nonce from moves

abbrev pub IsFound : List Entry → ℕ → Option Secret → Option Breach → Type 0
IsFound T nonce None found = found ≡ None
IsFound T nonce (Some secret) found = IsFoundBy T nonce secret.knowing found

-- the breach of a partner that an event lacks
abbrev pub breach_of_lack : Lack → Breach
breach_of_lack lack = Event lack.event lack.partner
