-- What is asked of a file that is checked, so that the code's numbers tell all apart. It bounds the names of
-- handlers, and the fields, events and partners of declarations. The limits of files ask for less than half of that.
use Rattle.std.specs.Prelude.{◌<◌, ◌≤◌, List, length, Contains}
use Rattle.dy_label.specs.declared.words.TheConstants.{NAMES}
use Rattle.dy_syntax.specs.Declarations.{CaseDecl, EventDecl, StateDecl}
use Rattle.dy_syntax.specs.Statements as statements
use Rattle.dy_syntax.specs.Files.{Decl, Usage, Case, Event, State, Handler}
use Rattle.dy_syntax.specs.Scopes.{handler_names}
use Rattle.dy_check.specs.declared.limits.TheConstants.{MAX_MEMBERS}

-- With `self`, the names are no more than a scope can have.
abbrev pub HasFewNames : statements.Handler → Type 0
HasFewNames handler = length (handler_names handler) < NAMES

abbrev pub CaseIsShort : CaseDecl → Type 0
CaseIsShort case = (length case.fields ≤ MAX_MEMBERS) × (length case.requires_ ≤ MAX_MEMBERS)

abbrev pub EventIsShort : EventDecl → Type 0
EventIsShort event = length event.after ≤ MAX_MEMBERS

abbrev pub StateIsShort : StateDecl → Type 0
StateIsShort state = (length state.fields ≤ MAX_MEMBERS) × (length state.knows ≤ MAX_MEMBERS)

abbrev pub IsShort : Decl → Type 0
IsShort (Usage usage) = Unit {0}
IsShort (Case case) = CaseIsShort case
IsShort (Event event) = EventIsShort event
IsShort (State state) = StateIsShort state
IsShort (Handler handler) = HasFewNames handler

abbrev pub AreShort : List Decl → Type 0
AreShort decls = (decl : Decl) → Contains decls decl → IsShort decl
