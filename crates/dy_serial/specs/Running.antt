-- A Book in which a plan runs.
use Rattle.std.specs.Prelude.{◌≡◌, ℕ, List, [], ◌∷◌, ◌++◌}
use Rattle.dy_entry.specs.Entries.{Entry, Setup}
use Rattle.dy_core.specs.declared.books.Book.{Book}
use Rattle.dy_core.specs.BookMeaning.{trace_of, file_in, StaysInterleaved}

-- The trace is a Setup, and nothing more.
abbrev pub IsSetupAlone : List Entry → Type 0
IsSetupAlone T = (input : List ℕ) × (T ≡ Setup input ∷ [])

-- The trace begins with what it was.
abbrev pub Begins : List Entry → List Entry → Type 0
Begins T U = (more : List Entry) × (U ≡ T ++ more)

-- The Book has the same file, and a trace that begins with what it was and is an interleaving still.
pub record GrowsTo (old new : Book) : Type 0 where
  pub file : file_in new ≡ file_in old
  pub begins : Begins (trace_of old) (trace_of new)
  pub interleaves : StaysInterleaved old new
