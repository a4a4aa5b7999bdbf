-- When tokens are a protocol file, and where they stop being one. The end of the input stands after the tokens, as a
-- token of its own.
use Rattle.std.specs.Prelude.{◌≡◌, ℕ, ◌+◌, List, [], ◌∷◌, ◌++◌, length, ◌⊎◌}
use Rattle.dy_lex.specs.declared.tokens.TokenKind.TheVariants.{Symbol}
use Rattle.dy_lex.specs.Tokens.{Piece, newlines}
use Rattle.dy_syntax.specs.Files.{File}
use Rattle.dy_grammar.specs.Parts.{AFile}
use Rattle.dy_grammar.specs.Grammar.{end_of_input}
use Rattle.dy_grammar.specs.Trees.{Tree, leaves, value}

-- the tokens of a source, and its end on the line on which it ends
abbrev pub with_end : List ℕ → List Piece → List Piece
with_end source tokens =
    tokens ++ record { kind = Symbol; text = end_of_input; at = length source; line = 1 + newlines source } ∷ []

-- The tokens spell the file: they are the leaves of a tree that makes it.
pub record IsFile (file : File) (tokens : List Piece) : Type 0 where
  pub tree : Tree AFile
  pub spelled : tokens ≡ leaves tree
  pub value_is : file ≡ value tree

-- some file begins with these tokens
pub record BeginsFile (tokens : List Piece) : Type 0 where
  pub file : File
  pub more : List Piece
  pub is_file : IsFile file (tokens ++ more)

-- The tokens before this one begin a file, and with it they begin none.
pub record StopsAt (t : Piece) (tokens : List Piece) : Type 0 where
  pub prefix : List Piece
  pub after : List Piece
  pub split : tokens ≡ prefix ++ t ∷ after
  pub begins : BeginsFile prefix
  pub stops : BeginsFile (prefix ++ t ∷ []) → ⊥

-- all tokens begin a file, and they are none
pub record IsShort (tokens : List Piece) : Type 0 where
  pub begins : BeginsFile tokens
  pub none : (file : File) → IsFile file tokens → ⊥

-- The tokens of the source stop being a file on this line.
abbrev pub IsFaultOn : ℕ → List ℕ → List Piece → Type 0
IsFaultOn line source tokens =
    ((t : Piece) × StopsAt t (with_end source tokens) × (line ≡ t.line))
    ⊎ (IsShort (with_end source tokens) × (line ≡ 1 + newlines source))
