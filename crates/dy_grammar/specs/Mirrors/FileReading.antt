-- Reading a whole file.
use Rattle.std.specs.Prelude.{suc, List, [], ◌∷◌, length, Ok, Err}
use Rattle.dy_lex.specs.Tokens.{Piece}
use Rattle.dy_syntax.specs.Files.{File}
use Rattle.dy_grammar.specs.Parts.{AFile}
use Rattle.dy_grammar.specs.Mirrors.Machine.{◌>>=◌, Reads, at}

-- no token is left
abbrev pub whole : {A : Type 0} → A → List Piece → Reads A
whole v [] = Ok (v, [])
whole v (t ∷ rest) = Err (suc (length rest))

unfoldable pub file_at : List Piece → Reads File
file_at tokens = at AFile tokens >>= λ y. whole y.0 y.1
