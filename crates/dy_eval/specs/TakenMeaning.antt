-- What taking lines in the code comes to.
use Rattle.std.specs.Prelude.{◌≡◌, ℕ, ◌+◌, ◌≤◌, List, length, take, drop, map}
use Rattle.dy_eval.specs.declared.lines.Line.{Line}
use Rattle.dy_eval.specs.declared.names.Names.{Names}
use Rattle.dy_eval.specs.declared.steps.Taken.{Taken}
use Rattle.dy_eval.specs.declared.steps.Taken.TheVariants as code
use Rattle.dy_eval.specs.NamesMeaning.{names_of}
use Rattle.dy_eval.specs.LineMeaning.{line_of}
use Rattle.dy_eval.specs.Runs.{Next, Puts, Ends}

-- what an instance of these names and lines does next, where its first line has this number
abbrev pub next_of_taken : Names → ℕ → List Line → Taken → Next
next_of_taken names first lines (code.Puts item binds at) =
    Puts item binds (record { names = names_of names; number = first + at; lines = drop at (map line_of lines) })
next_of_taken names first lines (code.Ends outcome) = Ends outcome

-- The names are as they were, but for what is written after what was.
pub record KeepsWritten (old new : Names) : Type 0 where
  pub principal : new.principal ≡ old.principal
  pub session : new.session ≡ old.session
  pub longer : length old.written.items ≤ length new.written.items
  pub written : take (length old.written.items) new.written.items ≡ old.written.items
