-- Security of a trace.
use Rattle.std.specs.Prelude.{◌≡◌, ℕ, List, take, Some}
use Rattle.std.specs.List.{slice_get}
use Rattle.dy_term.specs.Terms.{Term, Nonce}
use Rattle.dy_syntax.specs.Files.{Decl}
use Rattle.dy_entry.specs.Entries.{Entry, Event}
use Rattle.dy_entry.specs.ValueLabels.{label_of}
use Rattle.dy_entry.specs.Attacker.{Derives}
use Rattle.dy_sound.specs.Flows.{IsShown}
use Rattle.dy_sound.specs.Events.{Follows}

-- Each nonce that the attacker derives has a label that is open under the corruptions of the trace.
pub record SecretsKept (T : List Entry) : Type 0 where
  pub shown : (index : ℕ) → Derives T (Nonce index) → IsShown T (label_of T (Nonce index))

-- Each event follows its partners: with its arguments they stand before it, or the exempting label was open before it.
pub record EventsFollow (decls : List Decl) (T : List Entry) : Type 0 where
  pub follow : (index instance : ℕ) (principal name : List ℕ) (args : List Term)
      → slice_get T index ≡ Some (Event instance principal name args) → Follows decls (take index T) name args

-- At each prefix, secrets are kept and events follow their partners.
pub record IsSecure (decls : List Decl) (T : List Entry) : Type 0 where
  pub secrets : (n : ℕ) → SecretsKept (take n T)
  pub events : (n : ℕ) → EventsFollow decls (take n T)
