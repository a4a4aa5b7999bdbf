-- Which bytes are a token, each kind apart.
use Rattle.std.specs.Prelude.{◌≡◌, ℕ, Bool, true, false, not, ◌&&◌, ◌||◌, ◌==◌, nat_le, List, [], ◌∷◌, length, codes}
use Rattle.std.specs.List.{list_all, list_any}
use Rattle.std.specs.Char.{is_ascii_digit}
use Rattle.dy_term.specs.Characters.{is_word_byte, is_long_word, is_long_text, in_quotes}
use Rattle.dy_term.specs.declared.letters.TheConstants.{SPACE, ZERO}
use Rattle.dy_lex.specs.declared.letters.TheConstants.{TAB, NEWLINE, CARRIAGE_RETURN, MINUS, GREATER}
use Rattle.dy_lex.specs.declared.limits.TheConstants.{MAX_DIGITS}
use Rattle.dy_lex.specs.declared.tokens.TokenKind.{TokenKind}
use Rattle.dy_lex.specs.declared.tokens.TokenKind.TheVariants.{Word, Number, Text, Symbol}

-- space, tab, newline and carriage return
abbrev pub is_blank : ℕ → Bool
is_blank b = (b == SPACE || b == TAB) || (b == NEWLINE || b == CARRIAGE_RETURN)

-- `0`, or a digit from 1 to 9 and up to five further digits
abbrev pub is_number : List ℕ → Bool
is_number [] = false
is_number (b ∷ []) = is_ascii_digit b
is_number (b ∷ c ∷ more) =
    (is_ascii_digit b && not (b == ZERO))
    && (list_all is_ascii_digit (c ∷ more) && nat_le (length (b ∷ c ∷ more)) MAX_DIGITS)

-- a symbol of one byte
abbrev pub is_mark : ℕ → Bool
is_mark b = list_any (λ c. c == b) (codes "(){},;:.=")

-- such a byte, or `->`
abbrev pub is_symbol : List ℕ → Bool
is_symbol [] = false
is_symbol (b ∷ []) = is_mark b
is_symbol (b ∷ c ∷ []) = (b == MINUS) && (c == GREATER)
is_symbol (b ∷ c ∷ d ∷ more) = false

-- the bytes are a token of this kind
abbrev pub IsToken : TokenKind → List ℕ → Type 0
IsToken Word text = is_long_word text ≡ true
IsToken Number text = is_number text ≡ true
IsToken Text text = (inner : List ℕ) × (is_long_text inner ≡ true) × (text ≡ in_quotes inner)
IsToken Symbol text = is_symbol text ≡ true

-- What follows begins with a letter, a digit or `_`. It would belong to a word, and may not follow a number.
abbrev pub runs_on : TokenKind → List ℕ → Bool
runs_on kind [] = false
runs_on Word (b ∷ more) = is_word_byte b
runs_on Number (b ∷ more) = is_word_byte b
runs_on Text (b ∷ more) = false
runs_on Symbol (b ∷ more) = false
