-- What each answer of a Book says, of the trace before the call and the trace after it.
use Rattle.std.specs.Prelude.{◌≡◌, ℕ, true, List, [], ◌∷◌, ◌++◌, length, Option, Some, None, ◌⊎◌}
use Rattle.std.specs.List.{slice_get}
use Rattle.dy_term.specs.Terms.{Term}
use Rattle.dy_label.specs.declared.usages.Outcome.{Outcome}
use Rattle.dy_syntax.specs.Files.{File, Decl}
use Rattle.dy_syntax.specs.Rules.{IsFirst}
use Rattle.dy_parse.specs.declared.errors.LimitName.{LimitName}
use Rattle.dy_parse.specs.Reading.{Reads, IsBadLine, IsOverLimit}
use Rattle.dy_entry.specs.Entries.{Entry, End, Inject, Skip}
use Rattle.dy_entry.specs.Summaries.{is_start}
use Rattle.dy_recipe.specs.Moves.{Move}
use Rattle.dy_recipe.specs.Values.{recipe_value}
use Rattle.dy_traces.specs.Steps.{step_at}
use Rattle.dy_traces.specs.Instances.{is_item_of, end_of, next_entry, IsRunningIn, IsSessionOf}
use Rattle.dy_traces.specs.Following.{message_at}
use Rattle.dy_core.specs.declared.answers.Added.{Added}
use Rattle.dy_core.specs.declared.answers.Added.TheVariants as added
use Rattle.dy_core.specs.declared.answers.Injected.{Injected}
use Rattle.dy_core.specs.declared.answers.Injected.TheVariants as injected
use Rattle.dy_core.specs.declared.answers.Started.{Started}
use Rattle.dy_core.specs.declared.answers.Started.TheVariants as started
use Rattle.dy_core.specs.declared.answers.Advanced.{Advanced}
use Rattle.dy_core.specs.declared.answers.Advanced.TheVariants as advanced
use Rattle.dy_traces.specs.Given.{given_by}
use Rattle.dy_core.specs.StepMeaning.{StartStep, start_of}

-- The bytes are no well-formed file: the line of the first fault.
abbrev pub IsBadInput : List ℕ → ℕ → Type 0
IsBadInput bytes line =
    IsBadLine bytes line ⊎ (((which : LimitName) × IsOverLimit bytes line which)
    ⊎ ((file : File) × (rule : ℕ) × Reads bytes file × IsFirst file rule line))

-- One entry was added, at this index.
pub record Adds (T U : List Entry) (index : ℕ) (e : Entry) : Type 0 where
  pub at : index ≡ length T
  pub trace : U ≡ T ++ e ∷ []

-- The answers of `corrupt`, `forge` and `skip`, whose entry this is.
abbrev pub IsAdded : List Entry → ℕ → Entry → Added → List Entry → Type 0
IsAdded T step e (added.Ok index) U = (step_at T step ≡ None) × Adds T U index e
IsAdded T step e (added.Already index) U = (step_at T step ≡ Some index) × (U ≡ T)
IsAdded T step e added.Memory U = U ≡ T

-- The answers of `inject`.
abbrev pub IsInjected : List Entry → ℕ → List Move → Injected → List Entry → Type 0
IsInjected T step recipe (injected.Ok index) U =
    (step_at T step ≡ None)
    × ((value : Term) × (recipe_value (given_by T) recipe ≡ Some value) × Adds T U index (Inject step value))
IsInjected T step recipe (injected.Already index) U = (step_at T step ≡ Some index) × (U ≡ T)
IsInjected T step recipe (injected.Skipped index) U =
    (step_at T step ≡ None) × (recipe_value (given_by T) recipe ≡ None) × Adds T U index (Skip step)
IsInjected T step recipe injected.Memory U = U ≡ T

-- The session that is given, if one is, was opened by this principal.
abbrev pub IsOpened : List Entry → List ℕ → Option ℕ → Type 0
IsOpened T principal None = Unit {0}
IsOpened T principal (Some session) = IsSessionOf T principal session

-- In the session that is given, if one is, no instance runs.
abbrev pub IsIdle : List Entry → Option ℕ → Type 0
IsIdle T None = Unit {0}
IsIdle T (Some session) = (instance : ℕ) → IsRunningIn T session instance → ⊥

-- At the index that is given, if one is, stands a message.
abbrev pub HasMessage : List Entry → Option ℕ → Type 0
HasMessage T None = Unit {0}
HasMessage T (Some index) = (value : Term) × (message_at T index ≡ Some value)

-- The answers of `start`. Each refusal comes only where the earlier ones do not.
abbrev pub IsStarted : List Entry → StartStep → Started → List Entry → Type 0
IsStarted T s (started.Ok index) U =
    (step_at T s.step ≡ None) × IsOpened T s.principal s.session × IsIdle T s.session × HasMessage T s.message
    × Adds T U index (start_of s T)
IsStarted T s (started.Already index) U = (step_at T s.step ≡ Some index) × (U ≡ T)
IsStarted T s started.NoSession U =
    (step_at T s.step ≡ None)
    × ((session : ℕ) × (s.session ≡ Some session) × (IsSessionOf T s.principal session → ⊥)) × (U ≡ T)
IsStarted T s (started.Busy instance) U =
    (step_at T s.step ≡ None)
    × ((session : ℕ) × (s.session ≡ Some session) × IsSessionOf T s.principal session × IsRunningIn T session instance)
    × (U ≡ T)
IsStarted T s started.NoMessage U =
    (step_at T s.step ≡ None) × IsOpened T s.principal s.session × IsIdle T s.session
    × ((index : ℕ) × (s.message ≡ Some index) × (message_at T index ≡ None)) × (U ≡ T)
IsStarted T s started.Memory U = U ≡ T

-- At the index stands a Start.
abbrev pub IsInstance : List Entry → ℕ → Type 0
IsInstance T instance = (start : Entry) × (slice_get T instance ≡ Some start) × (is_start start ≡ true)

-- The answers of `advance`. Put adds the entry that the instance puts next, an item, and Finished its End.
abbrev pub IsAdvanced : List Decl → List Entry → ℕ → Advanced → List Entry → Type 0
IsAdvanced decls T instance (advanced.Put index) U =
    (e : Entry) × (next_entry decls T instance ≡ Some e) × (is_item_of instance e ≡ true) × Adds T U index e
IsAdvanced decls T instance (advanced.Finished index) U =
    (outcome : Outcome) × (next_entry decls T instance ≡ Some (End instance outcome))
    × Adds T U index (End instance outcome)
IsAdvanced decls T instance advanced.NoInstance U = (IsInstance T instance → ⊥) × (U ≡ T)
IsAdvanced decls T instance (advanced.Ended index) U =
    IsInstance T instance × (end_of T instance ≡ Some index) × (U ≡ T)
IsAdvanced decls T instance advanced.Memory U = U ≡ T
