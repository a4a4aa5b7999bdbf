-- The names and the variables of a handler, by number, and what the words of a declaration stand for in a handler.
use Rattle.std.specs.Prelude.{ℕ, suc, List, [], ◌∷◌, ◌++◌, map, Option, Some, None, zip, find, position, option_map, option_and_then}
use Rattle.std.specs.Str.{bytes_eq}
use Rattle.dy_syntax.specs.Names.{Nm, Named, Me, AtomText}
use Rattle.dy_syntax.specs.Declarations.{CaseDecl, StateDecl, EventDecl}
use Rattle.dy_syntax.specs.Expressions as e
use Rattle.dy_syntax.specs.Statements.{Pattern, Bind, Equal, Handler}
use Rattle.dy_syntax.specs.Statements as statements
use Rattle.dy_syntax.specs.Files.{Decl}
use Rattle.dy_syntax.specs.Scopes.{words_of, field_names, param_names, params_named, handler_names}

-- `self` has number 0, and after it come these words in order.
abbrev pub number_in : List (List ℕ) → Nm → Option ℕ
number_in words (Me line) = Some 0
number_in words (Named id) = option_map suc (position (bytes_eq id.word) words)

-- What a handler is checked by: what its file declares, and its names.
pub record Setting : Type 0 where
  pub decls : List Decl
  pub names : List (List ℕ)

abbrev pub setting_of : List Decl → Handler → Setting
setting_of decls handler = record { decls = decls; names = words_of (handler_names handler) }

-- the number of a handler's name
abbrev pub name_number : Setting → Nm → Option ℕ
name_number setting name = number_in setting.names name

-- For each word of a declaration, what the handler has in its place: a name or a variable, or else neither.
abbrev pub Stands : Type 0
Stands = List (List ℕ × Option Nm)

-- what stands for a word of a declaration; `self` stands for itself
abbrev pub stands_for : Stands → Nm → Option Nm
stands_for stands (Me line) = Some (Me line)
stands_for stands (Named id) = option_and_then (λ pair. pair.1) (find (λ pair. bytes_eq id.word pair.0) stands)

-- the number of the handler's name that stands for a word of a declaration
abbrev pub stands_number : Setting → Stands → Nm → Option ℕ
stands_number setting stands name = option_and_then (name_number setting) (stands_for stands name)

-- what has the place of a field: the expression, where it is a name or a variable
abbrev pub expr_name : e.Expr → Option Nm
expr_name (e.Nm name) = Some name
expr_name _ = None

-- the variable that a pattern binds or compares with
abbrev pub pattern_name : Pattern → Nm
pattern_name (Bind name) = Named name
pattern_name (statements.Named line name) = Named name
pattern_name (Equal line to) = to

abbrev pub exprs_names : List e.Expr → List (Option Nm)
exprs_names exprs = map expr_name exprs

abbrev pub patterns_names : List Pattern → List (Option Nm)
patterns_names pats = map (λ pat. Some (pattern_name pat)) pats

-- In a case the usage's parameters stand for the usage's arguments, and the fields for what has their places.
abbrev pub case_stands : List Decl → List Nm → CaseDecl → List (Option Nm) → Stands
case_stands decls args case fields =
    zip (words_of (params_named decls case.usage.word)) (map Some args)
    ++ zip (words_of (field_names case.fields)) fields

-- in a state the fields stand for what has their places
abbrev pub state_stands : StateDecl → List (Option Nm) → Stands
state_stands state fields = zip (words_of (field_names state.fields)) fields

-- in an event's declaration the parameters stand for the event's arguments
abbrev pub event_stands : EventDecl → List Nm → Stands
event_stands event args = zip (words_of (param_names event.params)) (map Some args)

-- each of them, where the function gives one for each
abbrev pub each_or_none : {A B : Type 0} → (A → Option B) → List A → Option (List B)
each_or_none f [] = Some []
each_or_none f (x ∷ xs) = option_and_then (λ y. option_map (λ ys. y ∷ ys) (each_or_none f xs)) (f x)

-- what stands for the arguments of an event that a declaration names, where something stands for each of them
abbrev pub atom_names : Stands → AtomText → Option (List Nm)
atom_names stands atom = each_or_none (stands_for stands) atom.args
