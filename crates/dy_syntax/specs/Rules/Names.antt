-- w6: a position for a name holds something else.
use Rattle.std.specs.Prelude.{ℕ, Bool, true, false, not, ◌&&◌, List, [], ◌∷◌}
use Rattle.std.specs.Option.{option_map_or}
use Rattle.dy_syntax.specs.Names.{Nm, line_of}
use Rattle.dy_syntax.specs.Declarations.{Field, Param}
use Rattle.dy_syntax.specs.Expressions as e
use Rattle.dy_syntax.specs.Expressions.{Expr}
use Rattle.dy_syntax.specs.Statements.{Pattern, Bind, Named, Equal}
use Rattle.dy_syntax.specs.Files.{Decl}
use Rattle.dy_syntax.specs.LookUps.{case_named, event_named, state_named}
use Rattle.dy_syntax.specs.Scopes.{Scope, is_name, is_name_type}
use Rattle.dy_syntax.specs.Parts.{Part, NameOnly, Atom, Filled, Matched, StateFilled, StateMatched}
use Rattle.dy_syntax.specs.Rules.Lines.{lines_if, lines_of_pairs}

-- arguments of a usage, readers in labels, and the owner after `of`
abbrev pub lines_of_no_name : Scope → Nm → List ℕ
lines_of_no_name scope name = lines_if (not (is_name scope name)) (line_of name)

-- an argument of an event at a `name` parameter
abbrev pub lines_of_arg : Scope → Param → Nm → List ℕ
lines_of_arg scope param arg = lines_if (param.is_name && not (is_name scope arg)) (line_of arg)

abbrev pub is_name_expr : Scope → Expr → Bool
is_name_expr scope (e.Nm name) = is_name scope name
is_name_expr scope _ = false

-- an expression at a `name` field
abbrev pub lines_of_expr : Scope → Field → Expr → List ℕ
lines_of_expr scope field expr = lines_if (is_name_type field.kind && not (is_name_expr scope expr)) (e.line_of expr)

-- A `name` field has a pattern `name y`, or `=y` with y a name. Other fields have no pattern `name y`: the fault is
-- at the word `name`.
abbrev pub lines_of_pattern : Scope → Bool → Pattern → List ℕ
lines_of_pattern scope true (Bind name) = name.line ∷ []
lines_of_pattern scope true (Named line name) = []
lines_of_pattern scope true (Equal line to) = lines_of_no_name scope to
lines_of_pattern scope false (Bind name) = []
lines_of_pattern scope false (Named line name) = line ∷ []
lines_of_pattern scope false (Equal line to) = []

abbrev pub lines_of_field_pattern : Scope → Field → Pattern → List ℕ
lines_of_field_pattern scope field pat = lines_of_pattern scope (is_name_type field.kind) pat

abbrev pub w6 : List Decl → Scope → Part → List ℕ
w6 decls scope (NameOnly name) = lines_of_no_name scope name
w6 decls scope (Atom atom) =
    option_map_or (λ event. lines_of_pairs (lines_of_arg scope) event.params atom.args)
    (event_named decls atom.event.word) []
w6 decls scope (Filled usage tag args) =
    option_map_or (λ case. lines_of_pairs (lines_of_expr scope) case.fields args)
    (case_named decls usage.word tag.text) []
w6 decls scope (Matched usage tag pats) =
    option_map_or (λ case. lines_of_pairs (lines_of_field_pattern scope) case.fields pats)
    (case_named decls usage.word tag.text) []
w6 decls scope (StateFilled state args) =
    option_map_or (λ s. lines_of_pairs (lines_of_expr scope) s.fields args) (state_named decls state.word) []
w6 decls scope (StateMatched state pats) =
    option_map_or (λ s. lines_of_pairs (lines_of_field_pattern scope) s.fields pats) (state_named decls state.word) []
w6 decls scope _ = []
