-- What is kept of a token gives its kind and text again.
use Rattle.std.proofs.Common.{◌≡◌, ℕ, ◌+◌, ◌-◌, ◌*◌, ◌<◌, ◌≤◌, true, ◌&&◌, List, [], ◌∷◌, length, take, refl, sym, ap, subst, ◌∙◌, length-append, arith}
use Rattle.std.specs.Prelude.{not, ◌==◌, nat_le, fold}
use Rattle.std.specs.List.{list_all}
use Rattle.std.specs.Char.{is_ascii_digit}
use Rattle.std.specs.Fmt.{decimal}
use Rattle.std.specs.Str.{bytes_eq}
use Rattle.std.proofs.lemmas.Bool.{and_parts, and_from, leb-true, le-leb}
use Rattle.std.proofs.lemmas.List.{take_all, take_at}
use Rattle.std.proofs.lemmas.Slice.Eq.{bytes_eq-Decides}
use Rattle.std.proofs.lemmas.Fmt.{decimal-digits_value}
use Rattle.std.proofs.lemmas.Str.Parse.{IsDigitsTest, FoldsDigits, numerals_by_fold}
use Rattle.dy_term.specs.declared.limits.TheConstants.{MAX_LENGTH}
use Rattle.dy_term.specs.Characters.{in_quotes, is_long_text}
use Rattle.dy_lex.specs.declared.tokens.TokenKind.{TokenKind}
use Rattle.dy_lex.specs.declared.tokens.TokenKind.TheVariants.{Word, Number, Text, Symbol}
use Rattle.dy_lex.specs.Symbols.{is_number}
use Rattle.dy_lex.specs.Tokens.{Piece}
use Rattle.dy_grammar.specs.Terminals.{Terminal, This, AName, AText, ANumber, same_kind, is_free_word, text_inside, is_short_number, number_of, accepts, token_value}
use Rattle.dy_show.specs.Readings.{fits_kind}
use Rattle.dy_show.specs.Shapes.{Shape, piece_shape, silent_shape, value_shape, bare_value, is_this, IsLawful}

-- ---- numbers

abbrev read : ℕ → List ℕ → ℕ
read n ds = fold (λ n digit. 10 * n + (digit - 48)) n ds

tells : IsDigitsTest (λ ds. list_all is_ascii_digit ds ≡ true)
tells = record {
  empty = refl;
  parts = λ c cs e.
      let k = and_parts (is_ascii_digit c) (list_all is_ascii_digit cs) e in
      let m = and_parts (nat_le 48 c) (nat_le c 57) k.0 in
      ((leb-true 48 c m.0, leb-true c 57 m.1), k.1);
  more = λ c cs k e. and_from (is_ascii_digit c) (list_all is_ascii_digit cs) (and_from (nat_le 48 c) (nat_le c 57) (le-leb 48 c k.0) (le-leb c 57 k.1)) e;
}

folds : FoldsDigits read
folds = record {
  empty = λ n. refl;
  more = λ n c cs k. ap (λ m. read m cs) (let e : 10 * n + (c - 48) ≡ n * 10 + (c - 48) = omega arith in e);
}

abbrev grow : List ℕ → ℕ → ℕ
grow [] b = b
grow (d ∷ ds) b = grow ds (10 * b)

below : (ds : List ℕ) (n b : ℕ) → list_all is_ascii_digit ds ≡ true → n < b → read n ds < grow ds b
below [] n b digits small = small
below (d ∷ ds) n b digits small =
    let range = (tells.parts d ds digits).0 in
    below ds (10 * n + (d - 48)) (10 * b) (tells.parts d ds digits).1 (omega (arith, range.0, range.1))

six : (ds : List ℕ) → length ds ≤ 6 → grow ds 1 ≤ 1000000
six [] few = omega arith
six (a ∷ []) few = omega arith
six (a ∷ b ∷ []) few = omega arith
six (a ∷ b ∷ c ∷ []) few = omega arith
six (a ∷ b ∷ c ∷ d ∷ []) few = omega arith
six (a ∷ b ∷ c ∷ d ∷ e ∷ []) few = omega arith
six (a ∷ b ∷ c ∷ d ∷ e ∷ f ∷ []) few = omega arith
six (a ∷ b ∷ c ∷ d ∷ e ∷ f ∷ g ∷ ds) few = absurd (let bad : ⊥ = omega arith in bad)

-- digits of a number without zeros before it
pub number_written : (ds : List ℕ) → is_number ds ≡ true → decimal (number_of ds) ≡ ds
number_written [] is = absurd (cc)
number_written (b ∷ []) is =
    let digits : list_all is_ascii_digit (b ∷ []) ≡ true = and_from (is_ascii_digit b) true is refl in
    decimal-digits_value (numerals_by_fold (λ ds. list_all is_ascii_digit ds ≡ true) tells read folds) (b ∷ []) digits (omega arith) (λ e. refl)
    (let small = below (b ∷ []) 0 1 digits (omega arith) in omega (arith, small, six (b ∷ []) (omega arith)))
number_written (b ∷ c ∷ more) is =
    let first = and_parts (is_ascii_digit b && not (b == 48)) (list_all is_ascii_digit (c ∷ more) && nat_le (length (b ∷ c ∷ more)) 6) is in
    let start = and_parts (is_ascii_digit b) (not (b == 48)) first.0 in
    let rest = and_parts (list_all is_ascii_digit (c ∷ more)) (nat_le (length (b ∷ c ∷ more)) 6) first.1 in
    let digits : list_all is_ascii_digit (b ∷ c ∷ more) ≡ true = and_from (is_ascii_digit b) (list_all is_ascii_digit (c ∷ more)) start.0 rest.0 in
    let few = leb-true (length (b ∷ c ∷ more)) 6 rest.1 in
    decimal-digits_value (numerals_by_fold (λ ds. list_all is_ascii_digit ds ≡ true) tells read folds) (b ∷ c ∷ more) digits (omega arith)
    (λ e. absurd (no_zero b e start.1))
    (let small = below (b ∷ c ∷ more) 0 1 digits (omega arith) in omega (arith, small, six (b ∷ c ∷ more) few))
  where
    no_zero : (b : ℕ) → b ≡ 48 → not (b == 48) ≡ true → ⊥
    no_zero b e n = let bad : not (48 == 48) ≡ true = subst (λ x. not (x == 48) ≡ true) e n in cc

-- ---- texts

unquoted_quoted : (inner : List ℕ) → text_inside (in_quotes inner) ≡ inner
unquoted_quoted inner = take_at inner (34 ∷ []) (length (in_quotes inner) - 2) (omega (arith, length-append inner (34 ∷ [])))

-- ---- tokens

name_shape : (kind : TokenKind) (text : List ℕ) → same_kind kind Word ≡ true → fits_kind kind text ≡ true → ◌≡◌ {A = Shape} (record { kind = Word; text = take MAX_LENGTH text }) (record { kind = kind; text = text })
name_shape Word text e short = ap (λ (w : List ℕ). record { kind = Word; text = w }) (take_all MAX_LENGTH text (leb-true (length text) MAX_LENGTH short))
name_shape Number text e short = absurd (cc)
name_shape Text text e short = absurd (cc)
name_shape Symbol text e short = absurd (cc)

text_shape : (kind : TokenKind) (text : List ℕ) → same_kind kind Text ≡ true → IsLawful (record { kind = kind; text = text }) → ◌≡◌ {A = Shape} (record { kind = Text; text = in_quotes (take MAX_LENGTH (text_inside text)) }) (record { kind = kind; text = text })
text_shape Text text e lawful =
    let is = lawful.is_token refl in
    let inside : text_inside text ≡ is.0 = ap text_inside is.2 ∙ unquoted_quoted is.0 in
    let all : take MAX_LENGTH (text_inside text) ≡ text_inside text = take_all MAX_LENGTH (text_inside text) (leb-true (length (text_inside text)) MAX_LENGTH lawful.short) in
    ap (λ (w : List ℕ). record { kind = Text; text = w }) (ap in_quotes (all ∙ inside) ∙ sym is.2)
text_shape Word text e lawful = absurd (cc)
text_shape Number text e lawful = absurd (cc)
text_shape Symbol text e lawful = absurd (cc)

number_shape : (kind : TokenKind) (text : List ℕ) → same_kind kind Number ≡ true → IsLawful (record { kind = kind; text = text }) → ◌≡◌ {A = Shape} (record { kind = Number; text = decimal (number_of text) }) (record { kind = kind; text = text })
number_shape Number text e lawful = ap (λ (w : List ℕ). record { kind = Number; text = w }) (number_written text (lawful.is_token refl))
number_shape Word text e lawful = absurd (cc)
number_shape Text text e lawful = absurd (cc)
number_shape Symbol text e lawful = absurd (cc)

kind_is : (a b : TokenKind) → same_kind a b ≡ true → a ≡ b
kind_is Word Word e = refl
kind_is Number Number e = refl
kind_is Text Text e = refl
kind_is Symbol Symbol e = refl
kind_is Word Number e = cc
kind_is Word Text e = cc
kind_is Word Symbol e = cc
kind_is Number Word e = cc
kind_is Number Text e = cc
kind_is Number Symbol e = cc
kind_is Text Word e = cc
kind_is Text Number e = cc
kind_is Text Symbol e = cc
kind_is Symbol Word e = cc
kind_is Symbol Number e = cc
kind_is Symbol Text e = cc

this_shape : (kind : TokenKind) (text : List ℕ) (t : Piece) → accepts (This kind text) t ≡ true → ◌≡◌ {A = Shape} (record { kind = kind; text = text }) (piece_shape t)
this_shape kind text t fits =
    let both = and_parts (same_kind t.kind kind) (bytes_eq t.text text) fits in
    let kinds = kind_is t.kind kind both.0 in
    let texts = (bytes_eq-Decides t.text text).0 both.1 in
    sym (λ i. record { kind = kinds i; text = texts i })

pub kept_again : (x : Terminal) (t : Piece) → accepts x t ≡ true → IsLawful (piece_shape t) → value_shape x (token_value x t) ≡ piece_shape t
kept_again (This kind text) t fits lawful = this_shape kind text t fits
kept_again AName t fits lawful = name_shape t.kind t.text (and_parts (same_kind t.kind Word) (is_free_word t.text) fits).0 lawful.short
kept_again AText t fits lawful = text_shape t.kind t.text (and_parts (same_kind t.kind Text) (is_long_text (text_inside t.text)) fits).0 lawful
kept_again ANumber t fits lawful = number_shape t.kind t.text (and_parts (same_kind t.kind Number) (is_short_number t.text) fits).0 lawful

pub silent_again : (x : Terminal) (t : Piece) → is_this x ≡ true → accepts x t ≡ true → silent_shape x ≡ piece_shape t
silent_again (This kind text) t this fits = this_shape kind text t fits
silent_again AName t this fits = absurd (cc)
silent_again AText t this fits = absurd (cc)
silent_again ANumber t this fits = absurd (cc)

-- another token of the same kind and text is accepted, and the same is kept of it but for its line
accepts_shape : (x : Terminal) (t : Piece) → accepts x t ≡ accepts x (record { kind = t.kind; text = t.text; at = 0; line = 0 })
accepts_shape (This kind text) t = refl
accepts_shape AName t = refl
accepts_shape AText t = refl
accepts_shape ANumber t = refl

pub accepts_same : (x : Terminal) (t u : Piece) → piece_shape u ≡ piece_shape t → accepts x t ≡ true → accepts x u ≡ true
accepts_same x t u same fits =
    accepts_shape x u ∙ ap (λ (s : Shape). accepts x (record { kind = s.kind; text = s.text; at = 0; line = 0 })) same ∙ sym (accepts_shape x t) ∙ fits

bare_shape : (x : Terminal) (t : Piece) → bare_value x (token_value x t) ≡ bare_value x (token_value x (record { kind = t.kind; text = t.text; at = 0; line = 0 }))
bare_shape (This kind text) t = refl
bare_shape AName t = refl
bare_shape AText t = refl
bare_shape ANumber t = refl

pub kept_same : (x : Terminal) (t u : Piece) → piece_shape u ≡ piece_shape t → bare_value x (token_value x u) ≡ bare_value x (token_value x t)
kept_same x t u same =
    bare_shape x u ∙ ap (λ (s : Shape). bare_value x (token_value x (record { kind = s.kind; text = s.text; at = 0; line = 0 }))) same ∙ sym (bare_shape x t)
