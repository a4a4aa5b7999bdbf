-- What a protocol is: the bytes of a well-formed file.
use Rattle.std.specs.Prelude.{ℕ, List}
use Rattle.dy_syntax.specs.Files.{File}
use Rattle.dy_syntax.specs.Rules.{IsWellFormed}
use Rattle.dy_parse.specs.Reading.{Reads}

-- the bytes are this file, and it is well formed
pub record IsProtocol (bytes : List ℕ) (file : File) : Type 0 where
  pub reads : Reads bytes file
  pub well_formed : IsWellFormed file
