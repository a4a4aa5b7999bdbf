-- w7, w9 and w10: where words of labels and statements may stand.
use Rattle.std.specs.Prelude.{ℕ, Bool, true, false, not, List, [], ◌∷◌}
use Rattle.std.specs.Option.{option_map_or}
use Rattle.dy_syntax.specs.Names.{Id, Nm, Named, Me, line_of}
use Rattle.dy_syntax.specs.Labels.{LabelText, Session, Next, Prior, Here, One}
use Rattle.dy_syntax.specs.Declarations.{Param, EventDecl}
use Rattle.dy_syntax.specs.Expressions as e
use Rattle.dy_syntax.specs.Expressions.{Expr}
use Rattle.dy_syntax.specs.Files.{Decl}
use Rattle.dy_syntax.specs.LookUps.{state_named}
use Rattle.dy_syntax.specs.Scopes.{Where, InState, InHandler, Scope, has_self}
use Rattle.dy_syntax.specs.Parts.{Part, Triggered, LabelWord, Stored, Recalled, Defined, OfEvent}
use Rattle.dy_syntax.specs.Rules.Lines.{lines_if}

-- `session` stands in handlers, and in states that are not lasting
abbrev pub has_session : Where → Bool
has_session (InHandler goes_on stores) = true
has_session (InState lasting) = not lasting
has_session _ = false

-- `here` stands in states that are not lasting
abbrev pub has_here : Where → Bool
has_here (InState lasting) = not lasting
has_here _ = false

-- `next` and `prior` stand in handlers
abbrev pub has_versions : Where → Bool
has_versions (InHandler goes_on stores) = true
has_versions _ = false

-- a word of a label stands where it has no meaning
abbrev pub lines_of_label_word : Where → LabelText → List ℕ
lines_of_label_word place (Session line) = lines_if (not (has_session place)) line
lines_of_label_word place (Next line) = lines_if (not (has_versions place)) line
lines_of_label_word place (Prior line) = lines_if (not (has_versions place)) line
lines_of_label_word place (Here line) = lines_if (not (has_here place)) line
lines_of_label_word place (One (Me line)) = lines_if (not (has_self place)) line
lines_of_label_word place _ = []

abbrev pub w7 : Scope → Part → List ℕ
w7 scope (LabelWord word) = lines_of_label_word scope.place word
w7 scope _ = []

-- `next` stands in a handler without `store`, `prior` in one without `on`
abbrev pub lines_of_version : Where → LabelText → List ℕ
lines_of_version (InHandler goes_on stores) (Next line) = lines_if (not stores) line
lines_of_version (InHandler goes_on stores) (Prior line) = lines_if (not goes_on) line
lines_of_version place word = []

-- `use` names a state that is not lasting
abbrev pub lines_of_recalled : List Decl → ℕ → Id → List ℕ
lines_of_recalled decls line state =
    option_map_or (λ declared. lines_if (not declared.lasting) line) (state_named decls state.word) []

-- the first parameter of an event is not `name`, or there is none
abbrev pub lines_of_first_param : EventDecl → List Param → List ℕ
lines_of_first_param event [] = event.name.line ∷ []
lines_of_first_param event (param ∷ params) = lines_if (not param.is_name) param.name.line

-- the first argument of an event statement is not `self`
abbrev pub lines_of_first_arg : List Nm → List ℕ
lines_of_first_arg [] = []
lines_of_first_arg (Me line ∷ args) = []
lines_of_first_arg (Named id ∷ args) = id.line ∷ []

abbrev pub w9 : List Decl → Scope → Part → List ℕ
w9 decls scope (LabelWord word) = lines_of_version scope.place word
w9 decls scope (Stored line is_last) = lines_if (not is_last) line
w9 decls scope (Recalled line state) = lines_of_recalled decls line state
w9 decls scope (OfEvent event) = lines_of_first_param event event.params
w9 decls scope (Triggered args) = lines_of_first_arg args
w9 decls scope _ = []

-- the expression of a `let` is a bare variable or `self`
abbrev pub lines_of_bare : Expr → List ℕ
lines_of_bare (e.Nm name) = line_of name ∷ []
lines_of_bare _ = []

abbrev pub w10 : Part → List ℕ
w10 (Defined value) = lines_of_bare value
w10 _ = []
