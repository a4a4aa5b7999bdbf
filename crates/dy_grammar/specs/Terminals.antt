-- Which tokens a rule of the grammar asks for, and what it keeps of them.
use Rattle.std.specs.Prelude.{ℕ, ◌+◌, ◌-◌, ◌*◌, ◌&&◌, Bool, true, false, not, nat_le, List, length, take, drop, fold}
use Rattle.std.specs.Char.{is_ascii_digit}
use Rattle.std.specs.List.{list_all}
use Rattle.std.specs.Str.{bytes_eq}
use Rattle.dy_term.specs.Characters.{is_long_word, is_long_text}
use Rattle.dy_term.specs.declared.limits.TheConstants.{MAX_LENGTH}
use Rattle.dy_lex.specs.declared.limits.TheConstants.{MAX_DIGITS}
use Rattle.dy_lex.specs.declared.tokens.TokenKind.{TokenKind}
use Rattle.dy_lex.specs.declared.tokens.TokenKind.TheVariants.{Word, Number, Text, Symbol}
use Rattle.dy_lex.specs.Tokens.{Piece}
use Rattle.dy_syntax.specs.Names.{Id, Quote}
use Rattle.dy_grammar.specs.Words.{is_reserved}

-- this very token, or any name, text or number
pub data Terminal : Type 0 where
  This : (kind : TokenKind) (text : List ℕ) → Terminal
  AName : Terminal
  AText : Terminal
  ANumber : Terminal

abbrev pub same_kind : TokenKind → TokenKind → Bool
same_kind Word Word = true
same_kind Number Number = true
same_kind Text Text = true
same_kind Symbol Symbol = true
same_kind _ _ = false

-- a word of any length that is not reserved
abbrev pub is_free_word : List ℕ → Bool
is_free_word word = is_long_word word && not (is_reserved word)

-- the bytes between the quotes
abbrev pub text_inside : List ℕ → List ℕ
text_inside text = take (length text - 2) (drop 1 text)

-- at most MAX_DIGITS digits
abbrev pub is_short_number : List ℕ → Bool
is_short_number digits = nat_le (length digits) MAX_DIGITS && list_all is_ascii_digit digits

abbrev pub number_of : List ℕ → ℕ
number_of digits = fold (λ n digit. 10 * n + (digit - 48)) 0 digits

-- the token is one that is asked for
abbrev pub accepts : Terminal → Piece → Bool
accepts (This kind text) token = same_kind token.kind kind && bytes_eq token.text text
accepts AName token = same_kind token.kind Word && is_free_word token.text
accepts AText token = same_kind token.kind Text && is_long_text (text_inside token.text)
accepts ANumber token = same_kind token.kind Number && is_short_number token.text

-- what is kept of a token
abbrev pub TokenValue : Terminal → Type 0
TokenValue (This kind text) = ℕ
TokenValue AName = Id
TokenValue AText = Quote
TokenValue ANumber = ℕ

-- the line of a token, the first MAX_LENGTH bytes of a word or a text, and a number
abbrev pub token_value : (x : Terminal) → Piece → TokenValue x
token_value (This kind text) token = token.line
token_value AName token = record { word = take MAX_LENGTH token.text; line = token.line }
token_value AText token = record { text = take MAX_LENGTH (text_inside token.text); line = token.line }
token_value ANumber token = number_of token.text
