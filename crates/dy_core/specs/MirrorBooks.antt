-- What a Book keeps of its instances.
use Rattle.std.specs.Prelude.{◌≡◌, ℕ, true, List, length, take, Option, Some, None}
use Rattle.std.specs.Option.{option_map, option_and_then}
use Rattle.std.specs.List.{slice_get}
use Rattle.dy_syntax.specs.Files.{File, Decl}
use Rattle.dy_syntax.specs.LookUps.{handler_named}
use Rattle.dy_syntax.specs.Meaning.{file_of}
use Rattle.dy_entry.specs.Entries.{Entry, Start, Corrupt, Forge, Inject, Skip}
use Rattle.dy_entry.specs.Meaning.{entries_of}
use Rattle.dy_entry.specs.Summaries.{is_start}
use Rattle.dy_entry.specs.declared.entries.Entry as declared
use Rattle.dy_syntax.specs.declared.files.File as file
use Rattle.std.specs.declared.vec.Vec.{Vec}
use Rattle.std.specs.declared.alloc.Global.{Global}
use Rattle.dy_eval.specs.Meaning.{standing_of}
use Rattle.dy_eval.specs.declared.items.Item.{Item}
use Rattle.dy_eval.specs.Runs.{Next, Standing, Goes}
use Rattle.dy_eval.specs.Starts.{opening}
use Rattle.dy_eval.specs.Turns.{IsAsked, next_asked}
use Rattle.dy_traces.specs.Steps.{IsShort, IsUnused}
use Rattle.dy_traces.specs.Instances.{does_next, end_of, entry_for}
use Rattle.dy_traces.specs.Following.{message_at}
use Rattle.dy_traces.specs.Interleavings.{Interleaves}
use Rattle.dy_core.specs.StepMeaning.{StartStep, session_of}
use Rattle.dy_core.specs.Answers.{IsOpened, IsIdle, HasMessage}
use Rattle.dy_core.specs.declared.running.Running.{Running}

-- An instance that is kept has no End, and does next what its Start and its items so far say.
pub record IsKept (decls : List Decl) (T : List Entry) (kept : Running) : Type 0 where
  pub start : Entry
  pub stands : slice_get T kept.start ≡ Some start
  pub goes_on : end_of T kept.start ≡ None
  pub asked : IsAsked (standing_of kept.instance) kept.landed
  pub does : does_next decls T kept.start start
      ≡ Some (next_asked (take kept.start T) (standing_of kept.instance) kept.landed)

-- No instance is kept twice.
abbrev pub HasEachOnce : List Running → Type 0
HasEachOnce running =
    (j k : ℕ) (r s : Running) → slice_get running j ≡ Some r → slice_get running k ≡ Some s → r.start ≡ s.start
    → j ≡ k

-- The entries are a short interleaving of the file, and each instance that runs is kept, once.
pub record IsBook (file : File) (T : List Entry) (running : List Running) : Type 0 where
  pub bytes : List ℕ
  pub interleaves : Interleaves bytes file T
  pub short : IsShort T
  pub kept : (k : ℕ) (r : Running) → slice_get running k ≡ Some r → IsKept file.decls T r
  pub once : HasEachOnce running
  pub all : (instance : ℕ) (start : Entry) → slice_get T instance ≡ Some start → is_start start ≡ true
      → end_of T instance ≡ None → (k : ℕ) × (r : Running) × (slice_get running k ≡ Some r) × (r.start ≡ instance)

abbrev pub HoldsBook : file.File → Vec declared.Entry Global → Vec Running Global → Type 0
HoldsBook file entries running = IsBook (file_of file) (entries_of entries.items) running.items

-- The entry is that of a step that starts no instance.
abbrev pub IsOfNoInstance : Entry → Type 0
IsOfNoInstance (Corrupt step corruption) = Unit {0}
IsOfNoInstance (Forge step) = Unit {0}
IsOfNoInstance (Inject step value) = Unit {0}
IsOfNoInstance (Skip step) = Unit {0}
IsOfNoInstance e = ⊥

-- How the instance of a step stands when it starts, if its handler is declared.
abbrev pub opened_by : List Decl → List Entry → StartStep → Option Standing
opened_by decls T s =
    option_map (λ h. Goes (opening decls h s.principal (session_of s.session (length T)) s.args
    (option_and_then (message_at T) s.message))) (handler_named decls s.handler)

-- A step that fits the file may start an instance.
pub record MayBegin (T : List Entry) (s : StartStep) : Type 0 where
  pub unused : IsUnused T s.step
  pub opened : IsOpened T s.principal s.session
  pub idle : IsIdle T s.session
  pub has_message : HasMessage T s.message

-- what a kept instance does next
abbrev pub next_of_kept : List Entry → Running → Next
next_of_kept T kept = next_asked (take kept.start T) (standing_of kept.instance) kept.landed

-- the entry of an item, by the Start of its instance
abbrev pub item_entry : ℕ → Item → Entry → Option Entry
item_entry instance item (Start step handler principal session args message) =
    Some (entry_for instance principal session item)
item_entry instance item e = None
