-- The instances of a trace: what each has put, which are running, and what each puts next.
use Rattle.std.specs.Prelude.{◌≡◌, ℕ, suc, Bool, true, false, ◌&&◌, ◌==◌, List, [], ◌∷◌, take, Option, Some, None}
use Rattle.std.specs.Prelude.{if◌then◌else◌}
use Rattle.std.specs.Option.{option_and_then, is_some}
use Rattle.std.specs.List.{slice_get, position}
use Rattle.std.specs.Str.{bytes_eq}
use Rattle.dy_entry.specs.Entries.{Entry, Start, Fresh, Message, State, Event, Cert, End}
use Rattle.dy_syntax.specs.Files.{Decl}
use Rattle.dy_eval.specs.declared.items.Item.{Item}
use Rattle.dy_eval.specs.declared.items.Item.TheVariants as items
use Rattle.dy_eval.specs.Runs.{Next, Puts, Ends}
use Rattle.dy_eval.specs.Starts.{does_after}

-- the entry is an item that this instance put
abbrev pub is_item_of : ℕ → Entry → Bool
is_item_of instance (Fresh other label usage) = other == instance
is_item_of instance (Message other value) = other == instance
is_item_of instance (State other principal session version tag fields) = other == instance
is_item_of instance (Event other principal name args) = other == instance
is_item_of instance (Cert other principal usage key) = other == instance
is_item_of instance e = false

-- the indices of the entries that pass a test, where this is the index of the first entry
abbrev pub indices_from : ℕ → (Entry → Bool) → List Entry → List ℕ
indices_from index test [] = []
indices_from index test (e ∷ T) =
    if test e then index ∷ indices_from (suc index) test T else indices_from (suc index) test T

-- the indices of an instance's items, in order
abbrev pub items_of : List Entry → ℕ → List ℕ
items_of T instance = indices_from 0 (is_item_of instance) T

-- the entry is the End of this instance
abbrev pub is_end_of : ℕ → Entry → Bool
is_end_of instance (End other outcome) = other == instance
is_end_of instance e = false

-- the index of the End of an instance
abbrev pub end_of : List Entry → ℕ → Option ℕ
end_of T instance = position (is_end_of instance) T

-- the entry is a Start in this session
abbrev pub starts_in : ℕ → Entry → Bool
starts_in session (Start step handler principal other args message) = other == session
starts_in session e = false

-- The instance whose Start has this index is in this session, and has no End.
pub record IsRunningIn (T : List Entry) (session instance : ℕ) : Type 0 where
  pub start : Entry
  pub stands : slice_get T instance ≡ Some start
  pub is_start : starts_in session start ≡ true
  pub goes_on : end_of T instance ≡ None

-- the entry opens a session of this number, of this principal
abbrev pub opens_for : List ℕ → ℕ → Entry → Bool
opens_for principal session (Start step handler p s args message) = bytes_eq p principal && (s == session)
opens_for principal session e = false

-- The session was opened by a Start of this principal.
pub record IsSessionOf (T : List Entry) (principal : List ℕ) (session : ℕ) : Type 0 where
  pub start : Entry
  pub stands : slice_get T session ≡ Some start
  pub opens : opens_for principal session start ≡ true

-- the entry of an item, by its instance with its principal and session
abbrev pub entry_for : ℕ → List ℕ → ℕ → Item → Entry
entry_for instance principal session (items.Fresh label usage) = Fresh instance label usage
entry_for instance principal session (items.Message value) = Message instance value
entry_for instance principal session (items.State version tag fields) =
    State instance principal session version tag fields
entry_for instance principal session (items.Event name args) = Event instance principal name args
entry_for instance principal session (items.Cert usage key) = Cert instance principal usage key

-- the entry of what an instance does, by its Start
abbrev pub entry_of_next : ℕ → Entry → Next → Option Entry
entry_of_next instance (Start step handler principal session args message) (Puts item binds left) =
    Some (entry_for instance principal session item)
entry_of_next instance (Start step handler principal session args message) (Ends outcome) =
    Some (End instance outcome)
entry_of_next instance e next = None

-- what the instance of a Start at this index does next, if its handler is declared: it sees the trace before its Start
abbrev pub does_next : List Decl → List Entry → ℕ → Entry → Option Next
does_next decls T instance start = does_after decls (take instance T) start (items_of T instance)

-- the entry that the instance of a Start at this index puts next
abbrev pub entry_next : List Decl → List Entry → ℕ → Entry → Option Entry
entry_next decls T instance start =
    option_and_then (entry_of_next instance start) (does_next decls T instance start)

-- The entry that the instance of this index puts next in a trace. There is none before its Start and after its End.
abbrev pub next_entry : List Decl → List Entry → ℕ → Option Entry
next_entry decls T instance =
    if is_some (end_of T instance) then None else option_and_then (entry_next decls T instance) (slice_get T instance)
