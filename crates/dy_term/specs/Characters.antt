-- Which bytes words and texts are made of.
use Rattle.std.specs.Prelude.{ℕ, Bool, false, not, ◌&&◌, ◌||◌, ◌==◌, nat_le, List, [], ◌∷◌, ◌++◌, length}
use Rattle.std.specs.List.{list_all}
use Rattle.std.specs.Char.{is_ascii_alphabetic, is_ascii_alphanumeric}
use Rattle.dy_term.specs.declared.letters.TheConstants.{SPACE, QUOTE, BACKSLASH, UNDERSCORE, TILDE}
use Rattle.dy_term.specs.declared.limits.TheConstants.{MAX_LENGTH}

-- a letter, a digit or `_`
abbrev pub is_word_byte : ℕ → Bool
is_word_byte b = is_ascii_alphanumeric b || (b == UNDERSCORE)

-- a letter, and then letters, digits and `_`, of any number
abbrev pub is_long_word : List ℕ → Bool
is_long_word [] = false
is_long_word (b ∷ more) = is_ascii_alphabetic b && list_all is_word_byte more

-- a word has at most 32 bytes
abbrev pub is_word : List ℕ → Bool
is_word bytes = is_long_word bytes && nat_le (length bytes) MAX_LENGTH

-- printable ASCII other than `"` and `\`
abbrev pub is_text_byte : ℕ → Bool
is_text_byte b = (nat_le SPACE b && nat_le b TILDE) && (not (b == QUOTE) && not (b == BACKSLASH))

-- a text of any length
abbrev pub is_long_text : List ℕ → Bool
is_long_text bytes = list_all is_text_byte bytes

-- a text has at most 32 bytes
abbrev pub is_text : List ℕ → Bool
is_text bytes = is_long_text bytes && nat_le (length bytes) MAX_LENGTH

-- the bytes of a text between two `"`
abbrev pub in_quotes : List ℕ → List ℕ
in_quotes inner = QUOTE ∷ (inner ++ QUOTE ∷ [])

-- a letter, a digit or `_` stands first
abbrev pub begins_with_word_byte : List ℕ → Bool
begins_with_word_byte [] = false
begins_with_word_byte (b ∷ more) = is_word_byte b
