-- What a file declares, by name. Where a name is declared twice, its first declaration is meant.
use Rattle.std.specs.Prelude.{ℕ, ◌&&◌, List, [], ◌∷◌, Option, Some, None, if◌then◌else◌}
use Rattle.std.specs.Str.{bytes_eq}
use Rattle.dy_syntax.specs.Declarations.{UsageDecl, CaseDecl, EventDecl, StateDecl}
use Rattle.dy_syntax.specs.Statements as statements
use Rattle.dy_syntax.specs.Files.{Decl, Usage, Case, Event, State, Handler}

abbrev pub usage_named : List Decl → List ℕ → Option UsageDecl
usage_named [] name = None
usage_named (Usage usage ∷ decls) name = if bytes_eq usage.name.word name then Some usage else usage_named decls name
usage_named (Case case ∷ decls) name = usage_named decls name
usage_named (Event event ∷ decls) name = usage_named decls name
usage_named (State state ∷ decls) name = usage_named decls name
usage_named (Handler handler ∷ decls) name = usage_named decls name

-- the case of this usage with this tag
abbrev pub case_named : List Decl → List ℕ → List ℕ → Option CaseDecl
case_named [] usage tag = None
case_named (Case case ∷ decls) usage tag =
    if bytes_eq case.usage.word usage && bytes_eq case.tag.text tag then Some case else case_named decls usage tag
case_named (Usage other ∷ decls) usage tag = case_named decls usage tag
case_named (Event event ∷ decls) usage tag = case_named decls usage tag
case_named (State state ∷ decls) usage tag = case_named decls usage tag
case_named (Handler handler ∷ decls) usage tag = case_named decls usage tag

abbrev pub event_named : List Decl → List ℕ → Option EventDecl
event_named [] name = None
event_named (Event event ∷ decls) name = if bytes_eq event.name.word name then Some event else event_named decls name
event_named (Usage usage ∷ decls) name = event_named decls name
event_named (Case case ∷ decls) name = event_named decls name
event_named (State state ∷ decls) name = event_named decls name
event_named (Handler handler ∷ decls) name = event_named decls name

abbrev pub state_named : List Decl → List ℕ → Option StateDecl
state_named [] name = None
state_named (State state ∷ decls) name = if bytes_eq state.name.word name then Some state else state_named decls name
state_named (Usage usage ∷ decls) name = state_named decls name
state_named (Case case ∷ decls) name = state_named decls name
state_named (Event event ∷ decls) name = state_named decls name
state_named (Handler handler ∷ decls) name = state_named decls name

abbrev pub handler_named : List Decl → List ℕ → Option statements.Handler
handler_named [] name = None
handler_named (Handler handler ∷ decls) name =
    if bytes_eq handler.name.word name then Some handler else handler_named decls name
handler_named (Usage usage ∷ decls) name = handler_named decls name
handler_named (Case case ∷ decls) name = handler_named decls name
handler_named (Event event ∷ decls) name = handler_named decls name
handler_named (State state ∷ decls) name = handler_named decls name
