-- The report of an audit.
use Rattle.std.specs.Prelude.{◌≡◌, ℕ, ◌<◌, nat_lt, Bool, true, List, Some, Contains}
use Rattle.std.specs.List.{slice_get}
use Rattle.dy_term.specs.Terms as terms
use Rattle.dy_syntax.specs.Files.{Decl}
use Rattle.dy_entry.specs.Entries.{Entry}
use Rattle.dy_entry.specs.Attacker.{Derives}
use Rattle.dy_recipe.specs.Moves.{Move}
use Rattle.dy_know.specs.Knowing.{IsHonest, IsKnownFrom, KnownFrom}
use Rattle.dy_know.specs.Breaches.{Breach, Nonce, Event, IsNonceBreach, IsEventBreach, IsBreach, comes_before}

-- what is known of the nonces of a trace, and where the trace breaks what its file promises
pub record Report : Type 0 where
  pub known : List KnownFrom
  pub breaches : List Breach

-- Each item of the list comes before all later ones.
pub record IsInOrder {A : Type 0} (before : A → A → Bool) (items : List A) : Type 0 where
  pub in_order : (i j : ℕ) (first second : A) → i < j → slice_get items i ≡ Some first → slice_get items j ≡ Some second
      → before first second ≡ true

-- by rising nonce
abbrev pub has_lesser_nonce : KnownFrom → KnownFrom → Bool
has_lesser_nonce first second = nat_lt first.nonce second.nonce

-- The list has exactly the honest nonces that the attacker derives from the trace, by rising index, each with the entry
-- from which on it is known.
pub record ListsKnown (T : List Entry) (known : List KnownFrom) : Type 0 where
  pub in_order : IsInOrder has_lesser_nonce known
  pub honest : (k : KnownFrom) → Contains known k → IsHonest T k.nonce
  pub from : (k : KnownFrom) → Contains known k → IsKnownFrom T k.nonce k.from
  pub all : (nonce : ℕ) → IsHonest T nonce → Derives T (terms.Nonce nonce)
      → (from : ℕ) × Contains known (record { nonce = nonce; from = from })

-- The list has exactly the breaches of the trace, in order. Which recipe a breach of a nonce has is left open.
pub record ListsBreaches (decls : List Decl) (T : List Entry) (breaches : List Breach) : Type 0 where
  pub in_order : IsInOrder comes_before breaches
  pub each : (b : Breach) → Contains breaches b → IsBreach decls T b
  pub nonces : (nonce from : ℕ) → IsNonceBreach T nonce from
      → (recipe : List Move) × Contains breaches (Nonce nonce from recipe)
  pub events : (event partner : ℕ) → IsEventBreach decls T event partner → Contains breaches (Event event partner)

pub record IsReport (decls : List Decl) (T : List Entry) (report : Report) : Type 0 where
  pub known : ListsKnown T report.known
  pub breaches : ListsBreaches decls T report.breaches
