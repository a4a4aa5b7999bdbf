-- What a Book stands for: its file and its trace.
use Rattle.std.specs.Prelude.{ℕ, List}
use Rattle.dy_syntax.specs.Files.{File, Decl}
use Rattle.dy_syntax.specs.Meaning.{file_of}
use Rattle.dy_entry.specs.Entries.{Entry}
use Rattle.dy_entry.specs.Meaning.{entries_of}
use Rattle.dy_traces.specs.Interleavings.{Interleaves}
use Rattle.dy_core.specs.declared.books.Book as code

abbrev pub trace_of : code.Book → List Entry
trace_of book = entries_of book.entries.items

abbrev pub file_in : code.Book → File
file_in book = file_of book.file

abbrev pub decls_in : code.Book → List Decl
decls_in book = (file_of book.file).decls

-- The trace is an interleaving of the file, for some bytes.
abbrev pub IsInterleavingOf : File → List Entry → Type 0
IsInterleavingOf file T = (bytes : List ℕ) × Interleaves bytes file T

-- The trace stays an interleaving of its file.
abbrev pub StaysInterleaved : code.Book → code.Book → Type 0
StaysInterleaved old new =
    (bytes : List ℕ) → Interleaves bytes (file_in old) (trace_of old) → Interleaves bytes (file_in new) (trace_of new)
