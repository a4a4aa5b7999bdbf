-- What is resolved to a Start, and which step number the entry of a step has.
use Rattle.std.proofs.Common.{◌≡◌, ℕ, ◌==◌, true, List, map, Option, Some, None, refl, ap, sym, ◌∙◌, arith}
use Rattle.std.specs.Option.{option_map, option_map_or, option_and_then}
use Rattle.dy_term.specs.Terms.{Term}
use Rattle.dy_syntax.specs.Names.{Id}
use Rattle.dy_syntax.specs.Plans as plans
use Rattle.dy_syntax.specs.Plans.{Action, Step, OnStep, Plan}
use Rattle.dy_syntax.specs.Recipes.{Numbered}
use Rattle.dy_entry.specs.Entries as entries
use Rattle.dy_entry.specs.Entries.{Entry}
use Rattle.dy_recipe.specs.Moves.{Move}
use Rattle.dy_recipe.specs.Values.{recipe_value}
use Rattle.dy_traces.specs.Given.{given_by}
use Rattle.dy_traces.specs.Steps.{has_step}
use Rattle.dy_core.specs.StepMeaning.{StartStep}
use Rattle.dy_plan.specs.Steps.{numbered_step}
use Rattle.dy_plan.specs.Naming.{session_of}
use Rattle.dy_plan.specs.Recipes.{moves_of}
use Rattle.dy_plan.specs.Resolving.{Resolved, Start, Corrupt, Forge, Inject, Unresolved, session_for, message_for, action_in, resolution, entry_by, entry_of_step}

-- the start step of a plan by which an instance is started
pub record StartsBy (plan : Plan) (T : List Entry) (number : ℕ) (s : StartStep) : Type 0 where
  pub step : Step
  pub numbered : numbered_step plan number ≡ Some step
  pub principal : Id
  pub handler : Id
  pub args : List Id
  pub on : Option OnStep
  pub msg : Option Numbered
  pub action : step.action ≡ plans.Start principal handler args on msg
  pub session_is : session_for plan T principal.word on ≡ Some s.session
  pub message_is : message_for plan T msg ≡ Some s.message
  pub number_is : s.step ≡ number
  pub handler_is : s.handler ≡ handler.word
  pub principal_is : s.principal ≡ principal.word
  pub args_are : s.args ≡ map (λ arg. arg.word) args

abbrev or_unresolved : Option Resolved → Resolved
or_unresolved found = option_map_or (λ r. r) found Unresolved

module _ (plan : Plan) (T : List Entry) (number : ℕ) (s : StartStep) where
  by_words : (step : Step) → numbered_step plan number ≡ Some step → (principal handler : Id) (args : List Id) (on : Option OnStep) (msg : Option Numbered)
      → step.action ≡ plans.Start principal handler args on msg
      → (session : Option (Option ℕ)) → session_for plan T principal.word on ≡ session → (message : Option (Option ℕ)) → message_for plan T msg ≡ message
      → or_unresolved (option_and_then (λ session. option_map (λ message. Start (record {
        step = number;
        handler = handler.word;
        principal = principal.word;
        session = session;
        args = map (λ arg. arg.word) args;
        message = message;
      })) message) session) ≡ Start s
      → StartsBy plan T number s
  by_words step numbered principal handler args on msg action None of_session message of_message is = absurd cc
  by_words step numbered principal handler args on msg action (Some session) of_session None of_message is = absurd cc
  by_words step numbered principal handler args on msg action (Some session) of_session (Some message) of_message is =
      let made : StartStep = record {
        step = number;
        handler = handler.word;
        principal = principal.word;
        session = session;
        args = map (λ arg. arg.word) args;
        message = message;
      } in
      let same : made ≡ s = cc in
      record {
        step = step;
        numbered = numbered;
        principal = principal;
        handler = handler;
        args = args;
        on = on;
        msg = msg;
        action = action;
        session_is = of_session ∙ ap (λ (x : StartStep). Some x.session) same;
        message_is = of_message ∙ ap (λ (x : StartStep). Some x.message) same;
        number_is = ap (λ (x : StartStep). x.step) (sym same);
        handler_is = ap (λ (x : StartStep). x.handler) (sym same);
        principal_is = ap (λ (x : StartStep). x.principal) (sym same);
        args_are = ap (λ (x : StartStep). x.args) (sym same);
      }

  no_corruption : (session : Option ℕ) (principal : List ℕ) (version : ℕ) (place : ℕ → Resolved) → ((x : ℕ) → place x ≡ Start s → ⊥)
      → or_unresolved (option_map place session) ≡ Start s → ⊥
  no_corruption None principal version place other is = absurd cc
  no_corruption (Some x) principal version place other is = other x is

  no_recipe : (moves : Option (List Move)) → or_unresolved (option_map Inject moves) ≡ Start s → ⊥
  no_recipe None is = absurd cc
  no_recipe (Some moves) is = absurd cc

  by_action : (step : Step) → numbered_step plan number ≡ Some step → (action : Action) → step.action ≡ action
      → or_unresolved (action_in plan T number action) ≡ Start s → StartsBy plan T number s
  by_action step numbered (plans.Start principal handler args on msg) does is =
      by_words step numbered principal handler args on msg does (session_for plan T principal.word on) refl (message_for plan T msg) refl is
  by_action step numbered (plans.Corrupt principal session version) does is =
      absurd (no_corruption (session_of plan T principal.word session.word) principal.word version _ (λ x same. absurd cc) is)
  by_action step numbered plans.Forge does is = absurd cc
  by_action step numbered (plans.Inject recipe) does is = absurd (no_recipe (moves_of plan T recipe) is)

  by_step : (step : Option Step) → numbered_step plan number ≡ step
      → or_unresolved (option_and_then (λ step. action_in plan T number step.action) step) ≡ Start s → StartsBy plan T number s
  by_step None numbered is = absurd cc
  by_step (Some step) numbered is = by_action step numbered step.action refl is

  -- what is resolved to a Start is by a start step
  pub starts_by : resolution plan T number ≡ Start s → StartsBy plan T number s
  starts_by is = by_step (numbered_step plan number) refl is

module _ (plan : Plan) (T : List Entry) (number : ℕ) where
  self_equal : (n : ℕ) → (n == n) ≡ true
  self_equal n = search arith

  injected : (value : Option Term) → has_step number (option_map_or (entries.Inject number) value (entries.Skip number)) ≡ true
  injected None = self_equal number
  injected (Some value) = self_equal number

  entry_has : (r : Resolved) → resolution plan T number ≡ r → has_step number (entry_by T number r) ≡ true
  entry_has (Start s) is = let same = (starts_by plan T number s is).number_is in ap (λ (n : ℕ). n == number) same ∙ self_equal number
  entry_has (Corrupt place) is = self_equal number
  entry_has Forge is = self_equal number
  entry_has (Inject recipe) is = injected (recipe_value (given_by T) recipe)
  entry_has Unresolved is = self_equal number

  -- the entry of a step has its number
  pub entry_has_step : has_step number (entry_of_step plan T number) ≡ true
  entry_has_step = entry_has (resolution plan T number) refl
