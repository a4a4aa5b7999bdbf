-- When bytes are a protocol file, and why they are none.
use Rattle.std.specs.Prelude.{ℕ, ◌≤◌, ◌⊎◌, List, length}
use Rattle.dy_lex.specs.declared.limits.TheConstants.{MAX_SOURCE_BYTES}
use Rattle.dy_lex.specs.Tokens.{Piece, Spells, IsFaulty}
use Rattle.dy_syntax.specs.Files.{File}
use Rattle.dy_grammar.specs.Files.{with_end, IsFile, IsFaultOn}
use Rattle.dy_parse.specs.declared.errors.LimitName.{LimitName}
use Rattle.dy_parse.specs.Limits.{BreaksLimit, IsFirstLimit}

-- The bytes, of which there are at most 1,048,576, are cut into tokens that spell the file. It is within the limits.
pub record Reads (bytes : List ℕ) (file : File) : Type 0 where
  pub few : length bytes ≤ MAX_SOURCE_BYTES
  pub tokens : List Piece
  pub cut : Spells tokens 0 1 bytes
  pub is_file : IsFile file (with_end bytes tokens)
  pub fits : (which : LimitName) (line : ℕ) → BreaksLimit which line file tokens → ⊥

-- On this line the bytes stop being tokens, or the tokens stop being a file.
pub record IsBadLine (bytes : List ℕ) (line : ℕ) : Type 0 where
  pub few : length bytes ≤ MAX_SOURCE_BYTES
  pub stops : IsFaulty 0 1 bytes line ⊎ ((tokens : List Piece) × Spells tokens 0 1 bytes × IsFaultOn line bytes tokens)

-- The bytes are in the grammar, and this limit is the first that is broken: the least line, then the least number.
pub record IsOverLimit (bytes : List ℕ) (line : ℕ) (which : LimitName) : Type 0 where
  pub few : length bytes ≤ MAX_SOURCE_BYTES
  pub tokens : List Piece
  pub file : File
  pub cut : Spells tokens 0 1 bytes
  pub is_file : IsFile file (with_end bytes tokens)
  pub first : IsFirstLimit which line file tokens
