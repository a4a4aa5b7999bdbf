-- How the tokens of a canonical text stand beside each other.
use Rattle.std.specs.Prelude.{ℕ, Bool, true, false, ◌||◌, List, [], ◌∷◌, ◌++◌, codes, if◌then◌else◌}
use Rattle.std.specs.Str.{bytes_eq}
use Rattle.dy_lex.specs.declared.letters.TheConstants.{NEWLINE}
use Rattle.dy_lex.specs.declared.tokens.TokenKind.{TokenKind}
use Rattle.dy_lex.specs.declared.tokens.TokenKind.TheVariants.{Word, Symbol}
use Rattle.dy_show.specs.declared.spacing.Stand.{Stand}
use Rattle.dy_show.specs.declared.spacing.Stand.TheVariants.{Near, Apart, Between, OnLine, Indented}
use Rattle.dy_show.specs.declared.spacing.Ending.{Ending}
use Rattle.dy_show.specs.declared.spacing.Ending.TheVariants.{Bound, Loose, Closed, Written}

-- a token to be written, and where it stands
pub record Lexeme : Type 0 where
  pub stand : Stand
  pub kind : TokenKind
  pub text : List ℕ

-- a space follows `,` `;` `:` `{` and `->`
abbrev pub is_loose : List ℕ → Bool
is_loose text =
    bytes_eq text (codes ",") || bytes_eq text (codes ";") || bytes_eq text (codes ":") || bytes_eq text (codes "{")
    || bytes_eq text (codes "->")

abbrev pub symbol_ending : List ℕ → Ending
symbol_ending text = if bytes_eq text (codes ")") then Closed else if is_loose text then Loose else Bound

abbrev pub kind_ending : TokenKind → List ℕ → Ending
kind_ending Symbol text = symbol_ending text
kind_ending _ text = Written

abbrev pub token_ending : Stand → TokenKind → List ℕ → Ending
token_ending Between kind text = Loose
token_ending _ kind text = kind_ending kind text

-- what the token asks for after it
unfoldable pub ending_of : Lexeme → Ending
ending_of x = token_ending x.stand x.kind x.text

-- each `{` and `->` stands after a space
abbrev pub is_apart : TokenKind → List ℕ → Bool
is_apart Symbol text = bytes_eq text (codes "{") || bytes_eq text (codes "->")
is_apart _ text = false

-- a word after `)`; a word, a number or a text after one of these
abbrev pub asks_space : Ending → TokenKind → Bool → Bool
asks_space Bound kind apart = apart
asks_space Loose kind apart = true
asks_space Closed Word apart = true
asks_space Closed _ apart = apart
asks_space Written Symbol apart = apart
asks_space Written _ apart = true

abbrev pub space_if : Bool → List ℕ
space_if b = if b then codes " " else []

abbrev pub blanks_before : Ending → Stand → TokenKind → Bool → List ℕ
blanks_before ending Near kind apart = space_if (asks_space ending kind apart)
blanks_before ending Apart kind apart = codes " "
blanks_before ending Between kind apart = codes " "
blanks_before ending OnLine kind apart = NEWLINE ∷ []
blanks_before ending Indented kind apart = NEWLINE ∷ codes "  "

-- the blanks before a token
unfoldable pub gap : Ending → Lexeme → List ℕ
gap ending x = blanks_before ending x.stand x.kind (is_apart x.kind x.text)

-- the tokens, with blanks between them
abbrev pub text_after : Ending → List Lexeme → List ℕ
text_after ending [] = []
text_after ending (x ∷ xs) = gap ending x ++ (x.text ++ text_after (ending_of x) xs)
