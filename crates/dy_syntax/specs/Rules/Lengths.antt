-- w3: a list has another length than its declaration. The fault is at the name or text before the list.
use Rattle.std.specs.Prelude.{ℕ, not, ◌==◌, List, [], length}
use Rattle.std.specs.Option.{option_map_or}
use Rattle.dy_syntax.specs.Names.{Id, Quote, UseText, AtomText}
use Rattle.dy_syntax.specs.Files.{Decl}
use Rattle.dy_syntax.specs.LookUps.{usage_named, case_named, event_named, state_named, handler_named}
use Rattle.dy_syntax.specs.Parts.{Part, Used, Atom, Filled, Matched, StateFilled, StateMatched, Started}
use Rattle.dy_syntax.specs.Rules.Lines.{lines_if}

-- the two lists have different lengths
abbrev pub lines_of_lengths : {X Y : Type 0} → List X → List Y → ℕ → List ℕ
lines_of_lengths declared given line = lines_if (not (length declared == length given)) line

-- arguments of a usage
abbrev pub lines_of_usage_length : List Decl → UseText → List ℕ
lines_of_usage_length decls usage =
    option_map_or (λ declared. lines_of_lengths declared.params usage.args usage.usage.line)
    (usage_named decls usage.usage.word) []

-- arguments of an event
abbrev pub lines_of_event_length : List Decl → AtomText → List ℕ
lines_of_event_length decls atom =
    option_map_or (λ declared. lines_of_lengths declared.params atom.args atom.event.line)
    (event_named decls atom.event.word) []

-- what is given for the fields of a case
abbrev pub lines_of_case_length : {X : Type 0} → List Decl → Id → Quote → List X → List ℕ
lines_of_case_length decls usage tag given =
    option_map_or (λ declared. lines_of_lengths declared.fields given tag.line)
    (case_named decls usage.word tag.text) []

-- what is given for the fields of a state
abbrev pub lines_of_state_length : {X : Type 0} → List Decl → Id → List X → List ℕ
lines_of_state_length decls state given =
    option_map_or (λ declared. lines_of_lengths declared.fields given state.line) (state_named decls state.word) []

-- arguments of a handler that is started
abbrev pub lines_of_handler_length : List Decl → Id → List Id → List ℕ
lines_of_handler_length decls handler args =
    option_map_or (λ declared. lines_of_lengths declared.args args handler.line) (handler_named decls handler.word) []

abbrev pub w3 : List Decl → Part → List ℕ
w3 decls (Used usage) = lines_of_usage_length decls usage
w3 decls (Atom atom) = lines_of_event_length decls atom
w3 decls (Filled usage tag args) = lines_of_case_length decls usage tag args
w3 decls (Matched usage tag pats) = lines_of_case_length decls usage tag pats
w3 decls (StateFilled state args) = lines_of_state_length decls state args
w3 decls (StateMatched state pats) = lines_of_state_length decls state pats
w3 decls (Started handler args on msg) = lines_of_handler_length decls handler args
w3 decls _ = []
