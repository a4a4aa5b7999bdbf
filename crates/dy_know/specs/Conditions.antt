-- What an audit asks of a trace. Each interleaving meets it.
use Rattle.std.specs.Prelude.{ℕ, List, take}
use Rattle.dy_term.specs.Terms.{Nonce}
use Rattle.dy_entry.specs.Entries.{Entry}
use Rattle.dy_entry.specs.Attacker.{Derives}
use Rattle.dy_entry.specs.ValueLabels.{IsMade}

-- At each prefix the attacker derives only nonces that were made in it, by a handler or by the attacker.
pub record MakesNoncesFirst (T : List Entry) : Type 0 where
  pub made : (n index : ℕ) → Derives (take n T) (Nonce index) → IsMade (take n T) index
