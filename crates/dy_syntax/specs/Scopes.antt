-- Which names may stand in a declaration or a handler, and what they are.
use Rattle.std.specs.Prelude.{ℕ, Bool, true, false, List, [], ◌∷◌, ◌++◌, map, filter}
use Rattle.std.specs.Option.{option_map_or, is_some, option_to_list}
use Rattle.std.specs.List.{list_any, flat_map}
use Rattle.std.specs.Str.{bytes_eq}
use Rattle.dy_syntax.specs.Names.{Id, Nm, Named, Me}
use Rattle.dy_syntax.specs.Declarations.{FieldType, Name, Field, CaseDecl, Param, EventDecl, StateDecl}
use Rattle.dy_syntax.specs.Statements as statements
use Rattle.dy_syntax.specs.Statements.{Pattern, Bind, Equal, Act, New, Let, Find, Recall, Split, Opened, Popened, Verify, Store, Statement, Handler}
use Rattle.dy_syntax.specs.Files.{Decl}
use Rattle.dy_syntax.specs.LookUps.{usage_named}

-- where something stands: in a case, an event's declaration, a state, a handler, or elsewhere
pub data Where : Type 0 where
  InCase : Where
  InEvent : Where
  InState : (lasting : Bool) → Where
  InHandler : (goes_on stores : Bool) → Where
  Elsewhere : Where

-- where something stands, the words that are names there, and the words that are bound there
pub record Scope : Type 0 where
  pub place : Where
  pub names : List (List ℕ)
  pub bound : List (List ℕ)

-- `self` stands for a principal in states and handlers
abbrev pub has_self : Where → Bool
has_self (InState lasting) = true
has_self (InHandler goes_on stores) = true
has_self _ = false

-- the word stands among these
abbrev pub is_among : List ℕ → List (List ℕ) → Bool
is_among word words = list_any (bytes_eq word) words

abbrev pub is_name : Scope → Nm → Bool
is_name scope (Named id) = is_among id.word scope.names
is_name scope (Me line) = has_self scope.place

abbrev pub is_bound : Scope → Nm → Bool
is_bound scope (Named id) = is_among id.word scope.bound
is_bound scope (Me line) = has_self scope.place

abbrev pub words_of : List Id → List (List ℕ)
words_of ids = map (λ id. id.word) ids

abbrev pub is_name_type : FieldType → Bool
is_name_type Name = true
is_name_type _ = false

-- the names of the fields
abbrev pub field_names : List Field → List Id
field_names fields = map (λ field. field.name) fields

-- the names of those fields that take a name alone
abbrev pub name_fields : List Field → List Id
name_fields fields = field_names (filter (λ field. is_name_type field.kind) fields)

abbrev pub param_names : List Param → List Id
param_names params = map (λ param. param.name) params

-- the parameters that take a name alone
abbrev pub name_params : List Param → List Id
name_params params = param_names (filter (λ param. param.is_name) params)

-- the parameters of a usage, none where it is not declared
abbrev pub params_named : List Decl → List ℕ → List Id
params_named decls usage = option_map_or (λ u. u.params) (usage_named decls usage) []

-- in a case the names are its usage's parameters and its `name` fields
abbrev pub case_scope : List Decl → CaseDecl → Scope
case_scope decls case =
    let params = params_named decls case.usage.word in
    record {
      place = InCase;
      names = words_of (params ++ name_fields case.fields);
      bound = words_of (params ++ field_names case.fields);
    }

-- in an event's declaration they are its `name` parameters
abbrev pub event_scope : EventDecl → Scope
event_scope event =
    record {
      place = InEvent;
      names = words_of (name_params event.params);
      bound = words_of (param_names event.params);
    }

-- in a state they are `self` and the `name` fields
abbrev pub state_scope : StateDecl → Scope
state_scope state =
    record {
      place = InState state.lasting;
      names = words_of (name_fields state.fields);
      bound = words_of (field_names state.fields);
    }

-- what a pattern binds
abbrev pub pattern_binds : Pattern → List Id
pattern_binds (Bind name) = name ∷ []
pattern_binds (statements.Named line name) = name ∷ []
pattern_binds (Equal line to) = []

-- what a pattern binds to a name
abbrev pub pattern_names : Pattern → List Id
pattern_names (statements.Named line name) = name ∷ []
pattern_names _ = []

-- the patterns of a statement
abbrev pub act_pats : Act → List Pattern
act_pats (Recall state pats) = pats
act_pats (Split value tag pats) = pats
act_pats (Opened value key usage tag pats ad) = pats
act_pats (Popened value key usage tag pats) = pats
act_pats (Verify value key usage tag pats) = pats
act_pats _ = []

-- the variable that a statement itself binds
abbrev pub act_variable : Act → List Id
act_variable (New name usage label) = name ∷ []
act_variable (Let name value) = name ∷ []
act_variable (Find usage owner name) = name ∷ []
act_variable _ = []

-- what a statement binds
abbrev pub act_binds : Act → List Id
act_binds act = act_variable act ++ flat_map pattern_binds (act_pats act)

abbrev pub on_pats : Handler → List Pattern
on_pats handler = option_map_or (λ on. on.pats) handler.on []

-- what is bound when the `on` part runs: the arguments and the received message
abbrev pub bound_first : Handler → List Id
bound_first handler = handler.args ++ option_to_list handler.recv

-- the variables of a handler, as they stand in the text
abbrev pub variables : Handler → List Id
variables handler =
    flat_map pattern_binds (on_pats handler) ++ bound_first handler ++ flat_map (λ s. act_binds s.act) handler.body

-- in a handler the names are `self`, its arguments and its `name` patterns
abbrev pub handler_names : Handler → List Id
handler_names handler =
    handler.args ++ flat_map pattern_names (on_pats handler)
    ++ flat_map (λ s. flat_map pattern_names (act_pats s.act)) handler.body

abbrev pub is_store : Act → Bool
is_store (Store state fields) = true
is_store _ = false

abbrev pub body_stores : List Statement → Bool
body_stores body = list_any (λ s. is_store s.act) body

-- a handler where these are bound
abbrev pub handler_scope : Handler → List Id → Scope
handler_scope handler bound =
    record {
      place = InHandler (is_some handler.on) (body_stores handler.body);
      names = words_of (handler_names handler);
      bound = words_of bound;
    }

-- where these are bound too
abbrev pub with_bound : Scope → List Id → Scope
with_bound scope ids = record { place = scope.place; names = scope.names; bound = scope.bound ++ words_of ids }

-- a place where no names are
abbrev pub no_scope : Scope
no_scope = record { place = Elsewhere; names = []; bound = [] }
