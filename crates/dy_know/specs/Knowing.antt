-- Which honest nonces the attacker knows, and from which entry on.
use Rattle.std.specs.Prelude.{◌≡◌, ℕ, suc, ◌<◌, List, length, take, Some}
use Rattle.std.specs.List.{slice_get}
use Rattle.dy_term.specs.Terms.{Nonce}
use Rattle.dy_label.specs.Labels.{Label}
use Rattle.dy_label.specs.declared.usages.Usage.{Usage}
use Rattle.dy_entry.specs.Entries.{Entry, Fresh}
use Rattle.dy_entry.specs.Attacker.{Derives}

-- A nonce is honest where a handler made it: the entry of its index is a Fresh.
pub record IsHonest (T : List Entry) (nonce : ℕ) : Type 0 where
  pub instance : ℕ
  pub label : Label
  pub usage : Usage
  pub stands : slice_get T nonce ≡ Some (Fresh instance label usage)

-- the entries up to and with this one
abbrev pub through : List Entry → ℕ → List Entry
through T index = take (suc index) T

-- The attacker knows the nonce from this entry on: the entries up to and with it are the fewest that derive the nonce.
pub record IsKnownFrom (T : List Entry) (nonce from : ℕ) : Type 0 where
  pub within : from < length T
  pub derived : Derives (through T from) (Nonce nonce)
  pub least : (earlier : ℕ) → earlier < from → Derives (through T earlier) (Nonce nonce) → ⊥

-- a nonce, and the entry from which on the attacker knows it
pub record KnownFrom : Type 0 where
  pub nonce : ℕ
  pub from : ℕ
