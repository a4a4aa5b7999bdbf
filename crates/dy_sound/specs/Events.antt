-- Events that have happened in a trace.
use Rattle.std.specs.Prelude.{◌≡◌, ◌⊎◌, ℕ, List, Contains, Some}
use Rattle.std.specs.List.{slice_get}
use Rattle.dy_term.specs.Terms.{Term}
use Rattle.dy_syntax.specs.Names.{AtomText}
use Rattle.dy_syntax.specs.Declarations.{Partner, EventDecl}
use Rattle.dy_syntax.specs.Files.{Decl}
use Rattle.dy_syntax.specs.LookUps.{event_named}
use Rattle.dy_entry.specs.Entries.{Entry, Event}
use Rattle.dy_sound.specs.Flows.{IsShown}
use Rattle.dy_sound.specs.Words.{Words, event_words, label_meant, args_meant}

-- The event stands in the trace with these arguments.
pub record HasHappened (T : List Entry) (event : List ℕ) (args : List Term) : Type 0 where
  pub index : ℕ
  pub instance : ℕ
  pub principal : List ℕ
  pub stands : slice_get T index ≡ Some (Event instance principal event args)

-- So does an event that a declaration names, whose words stand for these.
pub record HasHappenedFor (T : List Entry) (words : Words) (atom : AtomText) : Type 0 where
  pub args : List Term
  pub args_are : args_meant words atom ≡ Some args
  pub has_happened : HasHappened T atom.event.word args

-- The partner's event stands in the trace, or its label is open.
abbrev pub HasPartner : List Entry → Words → Partner → Type 0
HasPartner T words partner = HasHappenedFor T words partner.atom ⊎ IsShown T (label_meant words partner.unless)

-- Before an event with these arguments, each partner of its declaration has happened, or the partner's label was open.
abbrev pub Follows : List Decl → List Entry → List ℕ → List Term → Type 0
Follows decls before name args =
    (event : EventDecl) → event_named decls name ≡ Some event
    → (partner : Partner) → Contains event.after partner → HasPartner before (event_words event args) partner
