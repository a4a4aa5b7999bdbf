-- What a plan that runs step by step has added to a trace so far.
use Rattle.std.specs.Prelude.{◌≡◌, ℕ, ◌<◌, true, List, [], ◌∷◌, ◌++◌, length, Some}
use Rattle.std.specs.List.{slice_get}
use Rattle.dy_label.specs.declared.usages.Outcome.{Outcome}
use Rattle.dy_syntax.specs.Plans.{Plan}
use Rattle.dy_syntax.specs.Files.{Decl}
use Rattle.dy_entry.specs.Entries.{Entry, Setup, End}
use Rattle.dy_traces.specs.Instances.{is_item_of}
use Rattle.dy_core.specs.StepMeaning.{StartStep, start_of}
use Rattle.dy_core.specs.Asking.{asks_right}
use Rattle.dy_core.specs.MirrorBooks.{MayBegin}
use Rattle.dy_plan.specs.Resolving as resolving
use Rattle.dy_plan.specs.Resolving.{Resolved, entry_by}
use Rattle.dy_plan.specs.Completeness.{step_of, owner, IsDone}

-- items of an instance
abbrev pub AreItems : ℕ → List Entry → Type 0
AreItems instance items = (i : ℕ) (e : Entry) → slice_get items i ≡ Some e → is_item_of instance e ≡ true

-- items of an instance, and then its End
pub record RunsToEnd (instance : ℕ) (T U : List Entry) : Type 0 where
  pub items : List Entry
  pub are_items : AreItems instance items
  pub outcome : Outcome
  pub trace : U ≡ (T ++ items) ++ End instance outcome ∷ []

-- The Start of a step, and all that its instance does.
abbrev pub RunsStart : StartStep → List Entry → List Entry → Type 0
RunsStart s T U = RunsToEnd (length T) (T ++ start_of s T ∷ []) U

-- A step that comes to this adds its entry, and where that starts an instance, all that the instance does.
abbrev pub Runs : ℕ → Resolved → List Entry → List Entry → Type 0
Runs number (resolving.Start step) T U = RunsStart step T U
Runs number r T U = U ≡ T ++ entry_by T number r ∷ []

-- A start step fits the file, and its instance may begin.
abbrev pub MayRun : List Decl → List Entry → Resolved → Type 0
MayRun decls T (resolving.Start step) = (asks_right decls step ≡ true) × MayBegin T step
MayRun decls T r = Unit {0}

-- The steps below this number have run, one after the other, and nothing else stands in the trace but its Setup.
pub record HasRun (plan : Plan) (count : ℕ) (T : List Entry) : Type 0 where
  pub input : List ℕ
  pub set_up : slice_get T 0 ≡ Some (Setup input)
  pub done : (number : ℕ) → number < count → IsDone plan T number
  pub of_steps : (i : ℕ) (e : Entry) → 0 < i → slice_get T i ≡ Some e
      → (number : ℕ) × (step_of T e ≡ Some number) × (number < count)
  pub in_order : (i j first second : ℕ) → owner T i ≡ Some first → owner T j ≡ Some second → first < second → i < j
