-- When a source reads as a file, words, texts and levels being within their limits.
use Rattle.std.specs.Prelude.{◌≡◌, ℕ, Bool, true, nat_le, List, length}
use Rattle.std.specs.List.{list_all}
use Rattle.dy_term.specs.declared.limits.TheConstants.{MAX_LENGTH}
use Rattle.dy_lex.specs.declared.tokens.TokenKind.{TokenKind}
use Rattle.dy_lex.specs.declared.tokens.TokenKind.TheVariants.{Word, Number, Text, Symbol}
use Rattle.dy_lex.specs.Tokens.{Piece, Spells}
use Rattle.dy_syntax.specs.Files.{File}
use Rattle.dy_grammar.specs.Terminals.{text_inside}
use Rattle.dy_grammar.specs.Files.{IsFile, with_end}
use Rattle.dy_syntax.specs.SameFiles.{AreSame}
use Rattle.dy_show.specs.Canonical.{canon}
use Rattle.dy_grammar.specs.Levels.{is_shallow}

-- a word has at most MAX_LENGTH bytes, and so has what stands between the quotes of a text
abbrev pub fits_kind : TokenKind → List ℕ → Bool
fits_kind Word text = nat_le (length text) MAX_LENGTH
fits_kind Number text = true
fits_kind Text text = nat_le (length (text_inside text)) MAX_LENGTH
fits_kind Symbol text = true

abbrev pub is_short : Piece → Bool
is_short token = fits_kind token.kind token.text

-- The source is cut into tokens that are the file, and none is too long, and nothing stands too deep.
pub record ReadsAs (source : List ℕ) (file : File) : Type 0 where
  pub tokens : List Piece
  pub cut : Spells tokens 0 1 source
  pub is_file : IsFile file (with_end source tokens)
  pub short : list_all is_short tokens ≡ true
  pub shallow : is_shallow is_file.tree ≡ true

-- The file's canonical text reads as the same file but for line numbers.
pub record ReadsAgain (file : File) : Type 0 where
  pub again : File
  pub reads : ReadsAs (canon file) again
  pub same : AreSame file again
