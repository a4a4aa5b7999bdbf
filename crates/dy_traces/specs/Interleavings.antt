-- The interleavings of a protocol file.
use Rattle.std.specs.Prelude.{◌≡◌, ℕ, ◌<◌, List, take, Some}
use Rattle.std.specs.List.{slice_get}
use Rattle.dy_syntax.specs.Files.{File}
use Rattle.dy_syntax.specs.Rules.{IsWellFormed}
use Rattle.dy_parse.specs.Reading.{Reads}
use Rattle.dy_entry.specs.Entries.{Entry, Setup}
use Rattle.dy_traces.specs.Following.{MayFollow}

-- A trace is an interleaving of a file. The bytes are the file, which is well formed, the trace opens with their
-- Setup, and each later entry may follow those before it. Instances may stand unfinished.
pub record Interleaves (bytes : List ℕ) (file : File) (T : List Entry) : Type 0 where
  pub reads : Reads bytes file
  pub well_formed : IsWellFormed file
  pub opens : slice_get T 0 ≡ Some (Setup bytes)
  pub follows : (i : ℕ) (e : Entry) → 0 < i → slice_get T i ≡ Some e → MayFollow file.decls (take i T) e

-- The trace is an interleaving of some file.
pub record IsInterleaving (T : List Entry) : Type 0 where
  pub bytes : List ℕ
  pub file : File
  pub interleaves : Interleaves bytes file T
