-- The texts of the errors.
use Rattle.std.specs.Prelude.{ℕ, List, ◌++◌, codes}
use Rattle.std.specs.Fmt.{decimal}
use Rattle.dy_lex.specs.declared.lexing.LexError.{LexError}
use Rattle.dy_lex.specs.declared.lexing.LexError.TheVariants.{Bad, Memory}

abbrev pub lex_message : LexError → List ℕ
lex_message (Bad line) = codes "line " ++ decimal line ++ codes ": no token begins here"
lex_message Memory = codes "out of memory"
