-- What a step of a plan comes to in a trace: its words mean indices of entries.
use Rattle.std.specs.Prelude.{ℕ, List, map, Option, Some, None}
use Rattle.std.specs.Option.{option_map, option_map_or, option_and_then}
use Rattle.dy_label.specs.Labels as labels
use Rattle.dy_label.specs.Labels.{Place}
use Rattle.dy_entry.specs.Entries as entries
use Rattle.dy_entry.specs.Entries.{Entry}
use Rattle.dy_recipe.specs.Moves.{Move}
use Rattle.dy_recipe.specs.Values.{recipe_value}
use Rattle.dy_syntax.specs.Plans as plans
use Rattle.dy_syntax.specs.Plans.{Action, OnStep, Plan}
use Rattle.dy_syntax.specs.Recipes.{Numbered}
use Rattle.dy_traces.specs.Given.{given_by}
use Rattle.dy_core.specs.StepMeaning.{StartStep, start_of}
use Rattle.dy_plan.specs.Steps.{numbered_step}
use Rattle.dy_plan.specs.Naming.{session_of, message_named}
use Rattle.dy_plan.specs.Recipes.{moves_of}

pub data Resolved : Type 0 where
  Start : (step : StartStep) → Resolved
  Corrupt : (place : Place) → Resolved
  Forge : Resolved
  Inject : (recipe : List Move) → Resolved
  -- some step that is named has not the entry that is asked of it
  Unresolved : Resolved

-- What a step may leave out: nothing where it does, and else an index, if there is one.
abbrev pub if_given : {X : Type 0} → (X → Option ℕ) → Option X → Option (Option ℕ)
if_given index_of None = Some None
if_given index_of (Some x) = option_map Some (index_of x)

-- `on s0`: the session that s0 opened for the principal
abbrev pub session_for : Plan → List Entry → List ℕ → Option OnStep → Option (Option ℕ)
session_for plan T principal on = if_given (λ o. session_of plan T principal o.step.word) on

-- `msg s.j`
abbrev pub message_for : Plan → List Entry → Option Numbered → Option (Option ℕ)
message_for plan T msg = if_given (λ m. message_named plan T m.step.word m.number) msg

-- what a step of this number does, where what it names is there
abbrev pub action_in : Plan → List Entry → ℕ → Action → Option Resolved
action_in plan T number (plans.Start principal handler args on msg) =
    option_and_then (λ session. option_map (λ message. Start (record {
      step = number;
      handler = handler.word;
      principal = principal.word;
      session = session;
      args = map (λ arg. arg.word) args;
      message = message;
    })) (message_for plan T msg)) (session_for plan T principal.word on)
action_in plan T number (plans.Corrupt principal step version) =
    option_map (λ session. Corrupt (labels.Version principal.word session version))
    (session_of plan T principal.word step.word)
action_in plan T number plans.Forge = Some Forge
action_in plan T number (plans.Inject recipe) = option_map Inject (moves_of plan T recipe)

-- What the step of this number comes to. A number that no step has is unresolved.
abbrev pub resolution : Plan → List Entry → ℕ → Resolved
resolution plan T number =
    option_map_or (λ r. r) (option_and_then (λ step. action_in plan T number step.action) (numbered_step plan number))
    Unresolved

-- The entry that a step adds to a trace, by what it comes to there. A step that is not resolved is left out, and so is
-- one whose recipe has no value.
abbrev pub entry_by : List Entry → ℕ → Resolved → Entry
entry_by T number (Start step) = start_of step T
entry_by T number (Corrupt place) = entries.Corrupt number place
entry_by T number Forge = entries.Forge number
entry_by T number (Inject recipe) =
    option_map_or (entries.Inject number) (recipe_value (given_by T) recipe) (entries.Skip number)
entry_by T number Unresolved = entries.Skip number

-- the entry that the step of this number adds to a trace
abbrev pub entry_of_step : Plan → List Entry → ℕ → Entry
entry_of_step plan T number = entry_by T number (resolution plan T number)
