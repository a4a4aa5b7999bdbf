-- What an audit keeps of events: those that a file declares, those that have happened, and the partners that they lack.
use Rattle.std.specs.Prelude.{◌≡◌, ℕ, ◌<◌, ◌⊎◌, ◌&&◌, ◌||◌, ◌==◌, nat_lt, Bool, true, false}
use Rattle.std.specs.Prelude.{List, [], ◌∷◌, Option, Some, None, Contains, take, if◌then◌else◌}
use Rattle.std.specs.List.{filter_map, slice_get}
use Rattle.std.specs.Str.{bytes_eq}
use Rattle.dy_term.specs.Terms.{Term}
use Rattle.dy_label.specs.Labels.{Place, is_open}
use Rattle.dy_syntax.specs.Names.{AtomText}
use Rattle.dy_syntax.specs.Declarations.{EventDecl, Partner}
use Rattle.dy_syntax.specs.Files as files
use Rattle.dy_syntax.specs.Files.{Decl}
use Rattle.dy_syntax.specs.LookUps.{event_named}
use Rattle.dy_entry.specs.Entries.{Entry, Event}
use Rattle.dy_entry.specs.LookUps.{corruptions}
use Rattle.dy_sound.specs.Words.{Words, args_meant, label_meant}
use Rattle.dy_know.specs.declared.happened.Happened.{Happened}
use Rattle.dy_know.specs.declared.happened.Lack.{Lack}
use Rattle.dy_know.specs.Breaches.{IsEventBreach}
use Rattle.dy_know.specs.Reports.{IsInOrder}

-- the event that a declaration declares, if it does
abbrev pub event_in : Decl → Option EventDecl
event_in (files.Event event) = Some event
event_in decl = None

-- the events that are declared, in order
abbrev pub events_in : List Decl → List EventDecl
events_in decls = filter_map event_in decls

-- the first of the events that has this name
abbrev pub event_called : List EventDecl → List ℕ → Option EventDecl
event_called [] name = None
event_called (event ∷ events) name = if bytes_eq event.name.word name then Some event else event_called events name

-- the event that an entry is, with its arguments
abbrev pub happened_in : Entry → Option Happened
happened_in (Event instance principal name args) = Some (record { name = name; args = args })
happened_in e = None

-- the events of a trace, in order
abbrev pub all_happened : List Entry → List Happened
all_happened T = filter_map happened_in T

-- Whether something has a meaning, and it is this.
abbrev pub IsNamed : {A : Type 0} → Bool → Option A → A → Type 0
IsNamed true meant value = meant ≡ Some value
IsNamed false meant value = meant ≡ Some value → ⊥

-- The event that a declaration names has happened, among these.
pub record HasHappenedAmong (happened : List Happened) (words : Words) (atom : AtomText) : Type 0 where
  pub args : List Term
  pub args_are : args_meant words atom ≡ Some args
  pub among : Contains happened (record { name = atom.event.word; args = args })

-- The partner's event has happened, or these corruptions open its label.
abbrev pub HasPartnerAmong : List Happened → List Place → Words → Partner → Type 0
HasPartnerAmong happened corruptions words partner =
    HasHappenedAmong happened words partner.atom ⊎ (is_open corruptions (label_meant words partner.unless) ≡ true)

-- The place of a partner in a trace comes before this one.
abbrev pub Precedes : ℕ → ℕ → ℕ → ℕ → Type 0
Precedes event partner limit number = (event < limit) ⊎ ((event ≡ limit) × (partner < number))

-- by rising event and then by rising partner
abbrev pub is_before : Lack → Lack → Bool
is_before first second =
    nat_lt first.event second.event || ((first.event == second.event) && nat_lt first.partner second.partner)

-- The list has exactly the partners that events lack, of those before this one, in order.
pub record ListsLacks (decls : List Decl) (T : List Entry) (limit number : ℕ) (lacks : List Lack) : Type 0 where
  pub in_order : IsInOrder is_before lacks
  pub each : (lack : Lack) → Contains lacks lack → IsEventBreach decls T lack.event lack.partner
  pub before : (lack : Lack) → Contains lacks lack → Precedes lack.event lack.partner limit number
  pub all : (event partner : ℕ) → IsEventBreach decls T event partner → Precedes event partner limit number
      → Contains lacks (record { event = event; partner = partner })

-- At this index stands an event with these arguments, of this declaration. Before it these events have happened, and
-- these are the corruptions.
pub record IsEventAt (decls : List Decl) (T : List Entry) (index : ℕ) (event : EventDecl) (args : List Term)
    (happened : List Happened) (places : List Place) : Type 0 where
  pub instance : ℕ
  pub principal : List ℕ
  pub name : List ℕ
  pub stands : slice_get T index ≡ Some (Event instance principal name args)
  pub declared : event_named decls name ≡ Some event
  pub happened_before : happened ≡ all_happened (take index T)
  pub corrupted_before : places ≡ corruptions (take index T)
