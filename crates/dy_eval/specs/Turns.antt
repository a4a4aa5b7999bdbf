-- How an instance is asked for what it does next, and what is answered.
use Rattle.std.specs.Prelude.{ℕ, ◌+◌, ◌<◌, ◌^◌, List, Option, Some, None}
use Rattle.dy_entry.specs.Entries.{Entry}
use Rattle.dy_entry.specs.LookUps.{newest}
use Rattle.dy_eval.specs.declared.items.Emit.{Emit}
use Rattle.dy_eval.specs.declared.items.Emit.TheVariants.{Put, End}
use Rattle.dy_eval.specs.Runs.{Next, Puts, Ends, next_of, tell, Standing, Goes, Awaits, Ended}

-- An index is told exactly where one is awaited, and nothing is asked of an instance that has ended.
abbrev pub IsAsked : Standing → Option ℕ → Type 0
IsAsked (Goes left) None = Unit {0}
IsAsked (Awaits binds left) (Some index) = Unit {0}
IsAsked standing landed = ⊥

-- what an instance does next, where this index is told
abbrev pub next_asked : List Entry → Standing → Option ℕ → Next
next_asked X (Goes left) landed = next_of X left
next_asked X (Awaits binds left) None = next_of X left
next_asked X (Awaits binds left) (Some index) = next_of X (tell index binds left)
next_asked X (Ended outcome) landed = Ends outcome

-- what is answered
abbrev pub emit_of : Next → Emit
emit_of (Puts item binds left) = Put item
emit_of (Ends outcome) = End outcome

-- how the instance stands then
abbrev pub standing_after : Next → Standing
standing_after (Puts item binds left) = Awaits binds left
standing_after (Ends outcome) = Ended outcome

-- The next version of each session has a number below 2^32.
abbrev pub HasRoomForVersions : List Entry → Type 0
HasRoomForVersions X = (principal : List ℕ) (session : ℕ) → newest X principal session + 1 < 2 ^ 32
