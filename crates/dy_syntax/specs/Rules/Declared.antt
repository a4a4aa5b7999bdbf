-- w2: what is not declared anywhere, or not bound before its use.
use Rattle.std.specs.Prelude.{ℕ, Bool, true, false, not, List, []}
use Rattle.dy_syntax.specs.Names.{Id, Quote, Nm, line_of}
use Rattle.dy_syntax.specs.Files.{Decl}
use Rattle.dy_syntax.specs.LookUps.{usage_named, case_named, event_named, state_named, handler_named}
use Rattle.dy_syntax.specs.Scopes.{Where, InHandler, Scope, is_bound}
use Rattle.dy_syntax.specs.Parts.{Part, Variable, NameOnly, Used, Certified, Atom, Filled, Matched, StateFilled, StateMatched, OfRow, OfCase, Started}
use Rattle.dy_syntax.specs.Rules.Lines.{lines_if, lines_if_none}

-- no usage has this name
abbrev pub lines_of_no_usage : List Decl → Id → List ℕ
lines_of_no_usage decls usage = lines_if_none (usage_named decls usage.word) usage.line

-- no case of the usage has this tag
abbrev pub lines_of_no_case : List Decl → Id → Quote → List ℕ
lines_of_no_case decls usage tag = lines_if_none (case_named decls usage.word tag.text) tag.line

-- no event, state or handler has this name
abbrev pub lines_of_no_event : List Decl → Id → List ℕ
lines_of_no_event decls event = lines_if_none (event_named decls event.word) event.line

abbrev pub lines_of_no_state : List Decl → Id → List ℕ
lines_of_no_state decls state = lines_if_none (state_named decls state.word) state.line

abbrev pub lines_of_no_handler : List Decl → Id → List ℕ
lines_of_no_handler decls handler = lines_if_none (handler_named decls handler.word) handler.line

-- A variable is not bound before its use. An argument of `requires`, `after` or `knows` is no parameter or field of its
-- declaration, nor `self` in a state.
abbrev pub lines_of_unbound : Scope → Nm → List ℕ
lines_of_unbound scope name = lines_if (not (is_bound scope name)) (line_of name)

abbrev pub is_in_handler : Where → Bool
is_in_handler (InHandler goes_on stores) = true
is_in_handler _ = false

-- in a handler, a variable that is not bound stands where only a name may stand
abbrev pub lines_of_unbound_name : Bool → Scope → Nm → List ℕ
lines_of_unbound_name true scope name = lines_of_unbound scope name
lines_of_unbound_name false scope name = []

abbrev pub w2 : List Decl → Scope → Part → List ℕ
w2 decls scope (Variable name) = lines_of_unbound scope name
w2 decls scope (NameOnly name) = lines_of_unbound_name (is_in_handler scope.place) scope name
w2 decls scope (Used usage) = lines_of_no_usage decls usage.usage
w2 decls scope (Certified usage) = lines_of_no_usage decls usage
w2 decls scope (OfRow usage row) = lines_of_no_usage decls row.usage
w2 decls scope (OfCase case) = lines_of_no_usage decls case.usage
w2 decls scope (Atom atom) = lines_of_no_event decls atom.event
w2 decls scope (Filled usage tag args) = lines_of_no_case decls usage tag
w2 decls scope (Matched usage tag pats) = lines_of_no_case decls usage tag
w2 decls scope (StateFilled state args) = lines_of_no_state decls state
w2 decls scope (StateMatched state pats) = lines_of_no_state decls state
w2 decls scope (Started handler args on msg) = lines_of_no_handler decls handler
w2 decls scope _ = []
