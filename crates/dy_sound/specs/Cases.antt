-- When a case holds for a key and a message under it.
use Rattle.std.specs.Prelude.{◌≡◌, ℕ, List, Contains, Some}
use Rattle.dy_term.specs.Terms.{Term}
use Rattle.dy_term.specs.Tuples.{tagged_tuple}
use Rattle.dy_label.specs.declared.usages.Usage.{Usage}
use Rattle.dy_syntax.specs.Names.{AtomText}
use Rattle.dy_syntax.specs.Declarations.{CaseDecl}
use Rattle.dy_syntax.specs.Files.{Decl}
use Rattle.dy_syntax.specs.LookUps.{case_named}
use Rattle.dy_entry.specs.Entries.{Entry}
use Rattle.dy_sound.specs.Usages.{usage_of}
use Rattle.dy_sound.specs.Words.{case_words}
use Rattle.dy_sound.specs.Events.{HasHappenedFor}
use Rattle.dy_sound.specs.Fields.{AllMeet}

-- The key has a usage, and the message is the tuple of a declared case of it. Its fields meet their types, and each
-- event that the case requires stands in the trace. The case's parameters stand for the usage's owners.
pub record CaseHolds (decls : List Decl) (T : List Entry) (key message : Term) : Type 0 where
  pub usage : Usage
  pub has_usage : usage_of decls T key ≡ Some usage
  pub tag : List ℕ
  pub fields : List Term
  pub message_is : message ≡ tagged_tuple tag fields
  pub case : CaseDecl
  pub is_declared : case_named decls usage.name tag ≡ Some case
  pub fields_meet : AllMeet decls T (case_words decls usage.owners case fields) case.fields fields
  pub events_stand : (atom : AtomText) → Contains case.requires_ atom
      → HasHappenedFor T (case_words decls usage.owners case fields) atom
