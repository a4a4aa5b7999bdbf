-- When tokens are those of a source. It is cut into blanks and tokens from the left, each token as long
-- as possible, and blanks at the end.
use Rattle.std.specs.Prelude.{◌≡◌, ℕ, ◌+◌, true, false, ◌==◌, List, [], ◌∷◌, ◌++◌, length, map, count_by}
use Rattle.std.specs.List.{list_all}
use Rattle.dy_lex.specs.declared.letters.TheConstants.{NEWLINE}
use Rattle.dy_lex.specs.declared.tokens.TokenKind.{TokenKind}
use Rattle.dy_lex.specs.declared.tokens.Token.{Token}
use Rattle.dy_lex.specs.Symbols.{is_blank, IsToken, runs_on}

-- a token, its bytes written out
pub record Piece : Type 0 where
  pub kind : TokenKind
  pub text : List ℕ
  pub at : ℕ
  pub line : ℕ

abbrev pub piece_of : Token → Piece
piece_of token = record { kind = token.kind; text = token.text.now; at = token.at; line = token.line }

abbrev pub pieces_of : List Token → List Piece
pieces_of tokens = map piece_of tokens

-- how many lines end here
abbrev pub newlines : List ℕ → ℕ
newlines bytes = count_by (λ b. b == NEWLINE) bytes

-- The source begins with blanks, and these lead from one place and line to the next.
pub record Skips (at line : ℕ) (source : List ℕ) (next next_line : ℕ) (rest : List ℕ) : Type 0 where
  pub blanks : List ℕ
  pub split : source ≡ blanks ++ rest
  pub blank : list_all is_blank blanks ≡ true
  pub place : next ≡ at + length blanks
  pub line_is : next_line ≡ line + newlines blanks

-- The source begins with blanks and this token, and goes on with the rest.
pub record Begins (token : Piece) (at line : ℕ) (source rest : List ℕ) : Type 0 where
  pub skips : Skips at line source token.at token.line (token.text ++ rest)
  pub is_token : IsToken token.kind token.text
  pub whole : runs_on token.kind rest ≡ false

-- The tokens are those of the source, whose first byte stands at this place and on this line.
abbrev pub Spells : List Piece → ℕ → ℕ → List ℕ → Type 0
Spells [] at line source = list_all is_blank source ≡ true
Spells (token ∷ tokens) at line source =
    (rest : List ℕ) × Begins token at line source rest
    × Spells tokens (token.at + length token.text) token.line rest

-- Something other than a blank stands here, and no token begins.
pub record IsNoToken (source : List ℕ) : Type 0 where
  pub first : ℕ
  pub more : List ℕ
  pub split : source ≡ first ∷ more
  pub not_blank : is_blank first ≡ false
  pub no_token : (kind : TokenKind) (text rest : List ℕ) → source ≡ text ++ rest → IsToken kind text →
      runs_on kind rest ≡ false → ⊥

-- After tokens and blanks something stands on this line that is no token.
abbrev pub IsFaultyAfter : List Piece → ℕ → ℕ → List ℕ → ℕ → Type 0
IsFaultyAfter [] at line source fault =
    (place : ℕ) × (rest : List ℕ) × Skips at line source place fault rest × IsNoToken rest
IsFaultyAfter (token ∷ tokens) at line source fault =
    (rest : List ℕ) × Begins token at line source rest
    × IsFaultyAfter tokens (token.at + length token.text) token.line rest fault

-- The first byte that begins no token stands on this line.
abbrev pub IsFaulty : ℕ → ℕ → List ℕ → ℕ → Type 0
IsFaulty at line source fault = (tokens : List Piece) × IsFaultyAfter tokens at line source fault
