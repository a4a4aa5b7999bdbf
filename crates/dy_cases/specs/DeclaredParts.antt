-- What is declared, kind by kind, and the rows of tables of derived keys.
use Rattle.std.specs.Prelude.{ℕ, List, Option, Some, None, find}
use Rattle.std.specs.List.{filter_map}
use Rattle.std.specs.Option.{option_and_then}
use Rattle.std.specs.Str.{bytes_eq}
use Rattle.dy_syntax.specs.Declarations.{UsageDecl, CaseDecl, EventDecl, StateDecl, Row}
use Rattle.dy_syntax.specs.Statements as statements
use Rattle.dy_syntax.specs.Files.{Decl, Usage, Case, Event, State, Handler}
use Rattle.dy_syntax.specs.LookUps.{usage_named}

abbrev pub usage_in : Decl → Option UsageDecl
usage_in (Usage usage) = Some usage
usage_in (Case case) = None
usage_in (Event event) = None
usage_in (State state) = None
usage_in (Handler handler) = None

abbrev pub case_in : Decl → Option CaseDecl
case_in (Case case) = Some case
case_in (Usage usage) = None
case_in (Event event) = None
case_in (State state) = None
case_in (Handler handler) = None

abbrev pub event_in : Decl → Option EventDecl
event_in (Event event) = Some event
event_in (Usage usage) = None
event_in (Case case) = None
event_in (State state) = None
event_in (Handler handler) = None

abbrev pub state_in : Decl → Option StateDecl
state_in (State state) = Some state
state_in (Usage usage) = None
state_in (Case case) = None
state_in (Event event) = None
state_in (Handler handler) = None

abbrev pub handler_in : Decl → Option statements.Handler
handler_in (Handler handler) = Some handler
handler_in (Usage usage) = None
handler_in (Case case) = None
handler_in (Event event) = None
handler_in (State state) = None

-- the handlers that are declared, in order
abbrev pub handlers_in : List Decl → List statements.Handler
handlers_in decls = filter_map handler_in decls

-- the row of a table of derived keys that has this text
abbrev pub row_for : UsageDecl → List ℕ → Option Row
row_for usage text = find (λ row. bytes_eq row.text.text text) usage.rows

-- the row that the usage of this name has for this text
abbrev pub row_named : List Decl → List ℕ → List ℕ → Option Row
row_named decls usage text = option_and_then (λ declared. row_for declared text) (usage_named decls usage)
