-- How the code finds the token at the start of bytes. Proofs tie it to what a token is (`Symbols`, `Tokens`).
use Rattle.std.specs.Prelude.{ℕ, ◌+◌, ◌&&◌, ◌==◌, nat_lt, List, [], ◌∷◌, length, take, slice_index, Option, Some, None, if◌then◌else◌}
use Rattle.std.specs.List.{prefix_len}
use Rattle.std.specs.Char.{is_ascii_alphabetic, is_ascii_digit}
use Rattle.dy_term.specs.Characters.{is_word_byte, is_text_byte}
use Rattle.dy_term.specs.declared.letters.TheConstants.{QUOTE}
use Rattle.dy_lex.specs.declared.letters.TheConstants.{MINUS, GREATER}
use Rattle.dy_lex.specs.declared.tokens.TokenKind.{TokenKind}
use Rattle.dy_lex.specs.declared.tokens.TokenKind.TheVariants.{Word, Number, Text, Symbol}
use Rattle.dy_lex.specs.Symbols.{is_number, is_mark}

-- all letters, digits and `_` at the start, if they are a number
abbrev pub number_prefix : List ℕ → Option (TokenKind × ℕ)
number_prefix bytes =
    let len = prefix_len is_word_byte bytes in
    if is_number (take len bytes) then Some (Number, len) else None

-- after a quote: all bytes of a text, if a quote follows
abbrev pub text_prefix : List ℕ → Option (TokenKind × ℕ)
text_prefix more =
    let len = prefix_len is_text_byte more in
    if nat_lt len (length more) && (slice_index more len == QUOTE) then Some (Text, 2 + len) else None

-- after `-`: an arrow, if `>` follows
abbrev pub arrow_prefix : List ℕ → Option (TokenKind × ℕ)
arrow_prefix [] = None
arrow_prefix (c ∷ more) = if c == GREATER then Some (Symbol, 2) else None

-- the kind of the token at the start, and its length
abbrev pub token_prefix : List ℕ → Option (TokenKind × ℕ)
token_prefix [] = None
token_prefix (b ∷ more) =
    if is_ascii_alphabetic b then Some (Word, prefix_len is_word_byte (b ∷ more))
    else if is_ascii_digit b then number_prefix (b ∷ more)
    else if b == QUOTE then text_prefix more
    else if is_mark b then Some (Symbol, 1)
    else if b == MINUS then arrow_prefix more
    else None
