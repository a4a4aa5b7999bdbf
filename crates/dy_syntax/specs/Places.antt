-- The places of a file: its parts of which a rule speaks, each in its scope.
use Rattle.std.specs.Prelude.{ℕ, ◌+◌, Bool, true, false, List, [], ◌∷◌, ◌++◌, map, Option, Some, None}
use Rattle.std.specs.Option.{option_to_list}
use Rattle.std.specs.List.{flat_map}
use Rattle.dy_syntax.specs.Names.{Id}
use Rattle.dy_syntax.specs.Declarations.{UsageDecl, CaseDecl, EventDecl, StateDecl}
use Rattle.dy_syntax.specs.Statements as statements
use Rattle.dy_syntax.specs.Statements.{Statement, OnPart}
use Rattle.dy_syntax.specs.Plans.{Action, Start, Corrupt, Forge, Inject, Round}
use Rattle.dy_syntax.specs.Files.{Decl, Usage, Case, Event, State, Handler, File}
use Rattle.dy_syntax.specs.Scopes.{Scope, case_scope, event_scope, state_scope, handler_scope, with_bound, no_scope, field_names, param_names, bound_first, pattern_binds, on_pats, act_binds, variables}
use Rattle.dy_syntax.specs.Parts.{Part, StateMatched, Bound, Declared, Cases, OfUsage, OfRow, OfCase, OfEvent, StepNames, StepNamed, Started, Together, Sending, OpeningOf, parts_of_type, parts_of_atom, parts_of_partner, parts_of_pattern, parts_of_act, parts_of_recipe}

-- a part in its scope
pub record Place : Type 0 where
  pub scope : Scope
  pub part : Part

-- parts that stand in one scope
abbrev pub within : Scope → List Part → List Place
within scope parts = map (λ part. record { scope = scope; part = part }) parts

abbrev pub usage_places : UsageDecl → List Place
usage_places usage = within no_scope (OfUsage usage ∷ Bound usage.params ∷ map (OfRow usage) usage.rows)

abbrev pub case_places : List Decl → CaseDecl → List Place
case_places decls case =
    within (case_scope decls case)
    (OfCase case ∷ Bound (field_names case.fields)
    ∷ (flat_map (λ field. parts_of_type field.kind) case.fields ++ flat_map parts_of_atom case.requires_))

abbrev pub event_places : EventDecl → List Place
event_places event =
    within (event_scope event)
    (OfEvent event ∷ Bound (param_names event.params) ∷ flat_map parts_of_partner event.after)

abbrev pub state_places : StateDecl → List Place
state_places state =
    within (state_scope state)
    (Bound (field_names state.fields)
    ∷ (flat_map (λ field. parts_of_type field.kind) state.fields ++ flat_map parts_of_partner state.knows))

abbrev pub on_places : Scope → Option OnPart → List Place
on_places scope None = []
on_places scope (Some on) = within scope (StateMatched on.state on.pats ∷ flat_map parts_of_pattern on.pats)

abbrev pub is_empty : {X : Type 0} → List X → Bool
is_empty [] = true
is_empty (x ∷ xs) = false

-- a statement sees what is bound before it
abbrev pub body_places : Scope → List Statement → List Place
body_places scope [] = []
body_places scope (statement ∷ rest) =
    within scope (parts_of_act statement.line (is_empty rest) statement.act)
    ++ body_places (with_bound scope (act_binds statement.act)) rest

-- The `on` part sees what is bound first, and the first statement besides what the `on` part binds.
abbrev pub handler_places : statements.Handler → List Place
handler_places handler =
    let first = handler_scope handler (bound_first handler) in
    within no_scope (Bound (variables handler) ∷ [])
    ++ on_places first handler.on
    ++ body_places (with_bound first (flat_map pattern_binds (on_pats handler))) handler.body

abbrev pub decl_places : List Decl → Decl → List Place
decl_places decls (Usage usage) = usage_places usage
decl_places decls (Case case) = case_places decls case
decl_places decls (Event event) = event_places event
decl_places decls (State state) = state_places state
decl_places decls (Handler handler) = handler_places handler

abbrev pub usage_names_in : Decl → List Id
usage_names_in (Usage usage) = usage.name ∷ []
usage_names_in _ = []

abbrev pub event_names_in : Decl → List Id
event_names_in (Event event) = event.name ∷ []
event_names_in _ = []

abbrev pub state_names_in : Decl → List Id
state_names_in (State state) = state.name ∷ []
state_names_in _ = []

abbrev pub handler_names_in : Decl → List Id
handler_names_in (Handler handler) = handler.name ∷ []
handler_names_in _ = []

abbrev pub cases_in : Decl → List CaseDecl
cases_in (Case case) = case ∷ []
cases_in _ = []

-- what is declared, sort by sort
abbrev pub declared_places : List Decl → List Place
declared_places decls =
    within no_scope
    (Declared (flat_map usage_names_in decls) ∷ Declared (flat_map event_names_in decls)
    ∷ Declared (flat_map state_names_in decls) ∷ Declared (flat_map handler_names_in decls)
    ∷ Cases (flat_map cases_in decls) ∷ [])

abbrev pub parts_of_action : ℕ → Action → List Part
parts_of_action round (Start principal handler args on msg) =
    Started handler args on msg ∷ (map (λ o. StepNamed round (OpeningOf principal.word) o.step) (option_to_list on)
    ++ map (λ m. StepNamed round Sending m.step) (option_to_list msg))
parts_of_action round (Corrupt principal session version) = StepNamed round (OpeningOf principal.word) session ∷ []
parts_of_action round Forge = []
parts_of_action round (Inject recipe) = parts_of_recipe round recipe

-- the rounds, numbered from this one on
abbrev pub parts_of_rounds : ℕ → List Round → List Part
parts_of_rounds number [] = []
parts_of_rounds number (round ∷ rounds) =
    Together round.steps
    ∷ (flat_map (λ s. parts_of_action number s.action) round.steps ++ parts_of_rounds (number + 1) rounds)

abbrev pub plan_places : List Round → List Place
plan_places rounds =
    within no_scope (StepNames (flat_map (λ r. map (λ s. s.name) r.steps) rounds) ∷ parts_of_rounds 0 rounds)

abbrev pub places_in : File → List Place
places_in file =
    declared_places file.decls ++ flat_map (decl_places file.decls) file.decls ++ plan_places file.plan.rounds
