-- When a trace is complete for a plan, and when it is serial.
use Rattle.std.specs.Prelude.{◌≡◌, ℕ, ◌<◌, Bool, true, false, ◌&&◌, ◌==◌, List, take, Option, Some, None, IsSome}
use Rattle.std.specs.Option.{option_and_then}
use Rattle.std.specs.List.{slice_get}
use Rattle.dy_syntax.specs.Plans.{Plan}
use Rattle.dy_entry.specs.Entries.{Entry, Setup, Start, Fresh, Message, State, Event, Cert, End}
use Rattle.dy_entry.specs.Entries.{Corrupt, Forge, Inject, Skip}
use Rattle.dy_entry.specs.Summaries.{is_start}
use Rattle.dy_traces.specs.Steps.{has_step}
use Rattle.dy_traces.specs.Instances.{end_of}
use Rattle.dy_plan.specs.Steps.{step_count, round_of}
use Rattle.dy_plan.specs.Resolving.{entry_of_step}

-- the step of a Start
abbrev pub step_started : Entry → Option ℕ
step_started (Start step handler principal session args message) = Some step
step_started e = None

-- the step of the Start of an instance
abbrev pub step_of_instance : List Entry → ℕ → Option ℕ
step_of_instance T instance = option_and_then step_started (slice_get T instance)

-- the step that an entry is of: its own, or that of its instance
abbrev pub step_of : List Entry → Entry → Option ℕ
step_of T (Setup input) = None
step_of T (Start step handler principal session args message) = Some step
step_of T (Fresh instance label usage) = step_of_instance T instance
step_of T (Message instance value) = step_of_instance T instance
step_of T (State instance principal session version tag fields) = step_of_instance T instance
step_of T (Event instance principal name args) = step_of_instance T instance
step_of T (Cert instance principal usage key) = step_of_instance T instance
step_of T (End instance outcome) = step_of_instance T instance
step_of T (Corrupt step corruption) = Some step
step_of T (Forge step) = Some step
step_of T (Inject step value) = Some step
step_of T (Skip step) = Some step

-- the step that the entry at an index is of
abbrev pub owner : List Entry → ℕ → Option ℕ
owner T index = option_and_then (step_of T) (slice_get T index)

-- The step of this number is done. It has one entry, which is the one that it adds to the entries before it, and an
-- instance that it starts has an End.
pub record IsDone (plan : Plan) (T : List Entry) (number : ℕ) : Type 0 where
  pub at : ℕ
  pub stands : slice_get T at ≡ Some (entry_of_step plan (take at T) number)
  pub one : (i : ℕ) (e : Entry) → slice_get T i ≡ Some e → has_step number e ≡ true → i ≡ at
  pub ends : is_start (entry_of_step plan (take at T) number) ≡ true → IsSome (end_of T at)

abbrev pub is_setup : Entry → Bool
is_setup (Setup input) = true
is_setup e = false

-- the entry at an index is the Setup that opens the trace
abbrev pub opens : ℕ → Entry → Bool
opens index e = (index == 0) && is_setup e

-- The trace is complete for a plan. Each step is done, each entry but the Setup is of some step, and all entries of a
-- round stand after those of earlier rounds.
pub record IsComplete (plan : Plan) (T : List Entry) : Type 0 where
  pub done : (number : ℕ) → number < step_count plan → IsDone plan T number
  pub of_steps : (i : ℕ) (e : Entry) → slice_get T i ≡ Some e → opens i e ≡ false
      → (number : ℕ) × (step_of T e ≡ Some number) × (number < step_count plan)
  pub in_rounds : (i j first second : ℕ) → owner T i ≡ Some first → owner T j ≡ Some second
      → round_of plan first < round_of plan second → i < j

-- The trace is serial: it is complete, and all entries of a step stand after those of earlier steps.
pub record IsSerial (plan : Plan) (T : List Entry) : Type 0 where
  pub complete : IsComplete plan T
  pub in_order : (i j first second : ℕ) → owner T i ≡ Some first → owner T j ≡ Some second → first < second → i < j
