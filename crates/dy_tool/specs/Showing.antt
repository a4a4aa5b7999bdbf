-- What is read of a text that is shown.
use Rattle.std.specs.Prelude.{ℕ, List}
use Rattle.dy_lex.specs.Tokens.{Piece, Spells}
use Rattle.dy_syntax.specs.Files.{File}
use Rattle.dy_syntax.specs.SameFiles.{AreSame}
use Rattle.dy_grammar.specs.Files.{with_end, IsFile}
use Rattle.dy_parse.specs.declared.errors.LimitName.{LimitName}
use Rattle.dy_parse.specs.Limits.{BreaksLimit}
use Rattle.dy_parse.specs.Reading.{Reads}
use Rattle.dy_show.specs.Canonical.{canon}

-- A source of any length is cut into tokens that spell the file. It is within the limits.
pub record IsTextOfFile (source : List ℕ) (file : File) : Type 0 where
  pub tokens : List Piece
  pub cut : Spells tokens 0 1 source
  pub is_file : IsFile file (with_end source tokens)
  pub fits : (which : LimitName) (line : ℕ) → BreaksLimit which line file tokens → ⊥

-- The file's canonical text is a file within the limits, the same but for line numbers.
pub record ReadsBack (file : File) : Type 0 where
  pub again : File
  pub reads : Reads (canon file) again
  pub same : AreSame file again
