-- Notes that go on others, and how they are cut back.
use Rattle.std.specs.Prelude.{◌≡◌, ℕ, ◌+◌, List, [], ◌∷◌, ◌++◌, Option, Some, None, length}
use Rattle.dy_term.specs.Terms.{Term}
use Rattle.dy_label.specs.LabelsMeaning.{places_of}
use Rattle.dy_syntax.specs.Declarations.{EventDecl}
use Rattle.dy_syntax.specs.Files.{Decl}
use Rattle.dy_entry.specs.Entries.{Entry}
use Rattle.dy_label.specs.declared.readers.Corruption.{Corruption}
use Rattle.dy_know.specs.declared.secrets.Secret.{Secret}
use Rattle.dy_know.specs.declared.happened.Happened.{Happened}
use Rattle.dy_know.specs.declared.happened.Lack.{Lack}
use Rattle.dy_know.specs.MirrorEvents.{event_called, IsEventAt, ListsLacks}
use Rattle.dy_know.specs.declared.notes.Notes.{Notes}
use Rattle.dy_know.specs.declared.notes.Marks.{Marks}

-- What is kept goes on what was kept before.
pub record Extends (old new : Notes) : Type 0 where
  pub secrets : (more : List (Option Secret)) × (new.secrets.items ≡ old.secrets.items ++ more)
  pub corruptions : (more : List Corruption) × (new.corruptions.items ≡ old.corruptions.items ++ more)
  pub happened : (more : List Happened) × (new.happened.items ≡ old.happened.items ++ more)
  pub lacks : (more : List Lack) × (new.lacks.items ≡ old.lacks.items ++ more)
  pub breaches : new.breaches ≡ old.breaches

-- What is kept is the same.
pub record AreSame (old new : Notes) : Type 0 where
  pub secrets : new.secrets.items ≡ old.secrets.items
  pub corruptions : new.corruptions.items ≡ old.corruptions.items
  pub happened : new.happened.items ≡ old.happened.items
  pub lacks : new.lacks.items ≡ old.lacks.items
  pub breaches : new.breaches ≡ old.breaches

-- So much is kept.
pub record IsMarked (notes : Notes) (marks : Marks) : Type 0 where
  pub secrets : marks.secrets ≡ length notes.secrets.items
  pub corruptions : marks.corruptions ≡ length notes.corruptions.items
  pub happened : marks.happened ≡ length notes.happened.items
  pub lacks : marks.lacks ≡ length notes.lacks.items

-- An event was added, and of the partners in its declaration those that it lacks.
pub record AddsEvent (events : List EventDecl) (index : ℕ) (name : List ℕ) (args : List Term) (old new : Notes) : Type 0 where
  pub secrets : new.secrets.items ≡ old.secrets.items
  pub corruptions : new.corruptions.items ≡ old.corruptions.items
  pub happened : new.happened.items ≡ old.happened.items ++ record { name = name; args = args } ∷ []
  pub breaches : new.breaches ≡ old.breaches
  pub unnamed : event_called events name ≡ None → new.lacks.items ≡ old.lacks.items
  pub lacks : (event : EventDecl) → event_called events name ≡ Some event
      → (decls : List Decl) (T : List Entry)
      → IsEventAt decls T index event args old.happened.items (places_of old.corruptions.items)
      → ListsLacks decls T index 0 old.lacks.items → ListsLacks decls T (index + 1) 0 new.lacks.items
