-- A canonical text is cut into its tokens.
use Rattle.std.proofs.Common.{◌≡◌, ℕ, ◌+◌, Bool, true, false, List, [], ◌∷◌, ◌++◌, length, map, refl, ap, ◌∙◌, append_assoc, arith}
use Rattle.std.specs.Prelude.{◌==◌}
use Rattle.std.specs.List.{list_all}
use Rattle.std.proofs.lemmas.Bool.{and_parts, eqb-true}
use Rattle.std.proofs.lemmas.Bool.Decides.{nat_tests}
use Rattle.dy_term.specs.Characters.{is_word_byte, begins_with_word_byte}
use Rattle.dy_lex.specs.declared.letters.TheConstants.{NEWLINE}
use Rattle.dy_lex.specs.declared.tokens.TokenKind.{TokenKind}
use Rattle.dy_lex.specs.declared.tokens.TokenKind.TheVariants.{Word, Number, Text, Symbol}
use Rattle.dy_lex.specs.Symbols.{is_blank, is_mark, is_symbol, IsToken, runs_on}
use Rattle.dy_lex.specs.Tokens.{Piece, newlines, Spells}
use Rattle.dy_show.specs.declared.spacing.Stand.{Stand}
use Rattle.dy_show.specs.declared.spacing.Stand.TheVariants.{Near, Apart, Between, OnLine, Indented}
use Rattle.dy_show.specs.declared.spacing.Ending.{Ending}
use Rattle.dy_show.specs.declared.spacing.Ending.TheVariants.{Loose, Written}
use Rattle.dy_show.specs.Spacing.{Lexeme, token_ending, ending_of, is_apart, asks_space, space_if, blanks_before, gap, text_after}
use Rattle.dy_show.specs.Shapes.{Shape, shape_of, piece_shape}

abbrev pub AreTokens : List Lexeme → Type 0
AreTokens [] = Unit {0}
AreTokens (x ∷ xs) = IsToken x.kind x.text × AreTokens xs

-- ---- blanks

space_is_blank : (b : Bool) → list_all is_blank (space_if b) ≡ true
space_is_blank true = refl
space_is_blank false = refl

blanks_are : (ending : Ending) (stand : Stand) (kind : TokenKind) (apart : Bool) → list_all is_blank (blanks_before ending stand kind apart) ≡ true
blanks_are ending Near kind apart = space_is_blank (asks_space ending kind apart)
blanks_are ending Apart kind apart = refl
blanks_are ending Between kind apart = refl
blanks_are ending OnLine kind apart = refl
blanks_are ending Indented kind apart = refl

-- ---- a word or a number does not run on

mark_is_no_word_byte : (b : ℕ) → is_mark b ≡ true → is_word_byte b ≡ false
mark_is_no_word_byte b mark = grind (arith, nat_tests)

symbol_start : (text rest : List ℕ) → is_symbol text ≡ true → begins_with_word_byte (text ++ rest) ≡ false
symbol_start [] rest is = absurd (cc)
symbol_start (b ∷ []) rest is = mark_is_no_word_byte b is
symbol_start (b ∷ c ∷ []) rest is = rw (eqb-true b 45 (and_parts (b == 45) (c == 62) is).0) refl
symbol_start (b ∷ c ∷ d ∷ more) rest is = absurd (cc)

after_space : (b : Bool) (text rest : List ℕ) → (b ≡ false → begins_with_word_byte (text ++ rest) ≡ false) → begins_with_word_byte ((space_if b ++ text) ++ rest) ≡ false
after_space true text rest other = refl
after_space false text rest other = other refl

-- after a word, a number or a text
written_stops : (stand : Stand) (kind : TokenKind) (text rest : List ℕ) → IsToken kind text → begins_with_word_byte ((blanks_before Written stand kind (is_apart kind text) ++ text) ++ rest) ≡ false
written_stops Near Word text rest is = refl
written_stops Near Number text rest is = refl
written_stops Near Text text rest is = refl
written_stops Near Symbol text rest is = after_space (is_apart Symbol text) text rest (λ e. symbol_start text rest is)
written_stops Apart kind text rest is = refl
written_stops Between kind text rest is = refl
written_stops OnLine kind text rest is = refl
written_stops Indented kind text rest is = refl

-- after what asks for a space
loose_stops : (stand : Stand) (kind : TokenKind) (text rest : List ℕ) → begins_with_word_byte ((blanks_before Loose stand kind (is_apart kind text) ++ text) ++ rest) ≡ false
loose_stops Near kind text rest = refl
loose_stops Apart kind text rest = refl
loose_stops Between kind text rest = refl
loose_stops OnLine kind text rest = refl
loose_stops Indented kind text rest = refl

-- what follows, with the end of the last line
abbrev rest_after : Ending → List Lexeme → List ℕ
rest_after ending xs = text_after ending xs ++ NEWLINE ∷ []

regrouped : (a b c d : List ℕ) → (a ++ (b ++ c)) ++ d ≡ (a ++ b) ++ (c ++ d)
regrouped a b c d = simp append_assoc

after_written : (xs : List Lexeme) → AreTokens xs → begins_with_word_byte (rest_after Written xs) ≡ false
unfolding gap
after_written [] all = refl
after_written (x ∷ xs) all =
    rw (regrouped (gap Written x) x.text (text_after (ending_of x) xs) (NEWLINE ∷ [])) (written_stops x.stand x.kind x.text _ all.0)

after_loose : (xs : List Lexeme) → begins_with_word_byte (rest_after Loose xs) ≡ false
unfolding gap
after_loose [] = refl
after_loose (x ∷ xs) =
    rw (regrouped (gap Loose x) x.text (text_after (ending_of x) xs) (NEWLINE ∷ [])) (loose_stops x.stand x.kind x.text _)

word_stops : (bytes : List ℕ) → begins_with_word_byte bytes ≡ false → runs_on Word bytes ≡ false
word_stops [] stops = refl
word_stops (b ∷ more) stops = stops

number_stops : (bytes : List ℕ) → begins_with_word_byte bytes ≡ false → runs_on Number bytes ≡ false
number_stops [] stops = refl
number_stops (b ∷ more) stops = stops

text_stops : (bytes : List ℕ) → runs_on Text bytes ≡ false
text_stops [] = refl
text_stops (b ∷ more) = refl

symbol_stops : (bytes : List ℕ) → runs_on Symbol bytes ≡ false
symbol_stops [] = refl
symbol_stops (b ∷ more) = refl

written_or_loose : (stand : Stand) (xs : List Lexeme) → AreTokens xs → (kind : TokenKind) (text : List ℕ) → token_ending Near kind text ≡ Written → begins_with_word_byte (rest_after (token_ending stand kind text) xs) ≡ false
written_or_loose Near xs all kind text is = rw is (after_written xs all)
written_or_loose Apart xs all kind text is = rw is (after_written xs all)
written_or_loose Between xs all kind text is = after_loose xs
written_or_loose OnLine xs all kind text is = rw is (after_written xs all)
written_or_loose Indented xs all kind text is = rw is (after_written xs all)

stops_after : (stand : Stand) (kind : TokenKind) (text : List ℕ) (xs : List Lexeme) → AreTokens xs → runs_on kind (rest_after (token_ending stand kind text) xs) ≡ false
stops_after stand Word text xs all = word_stops (rest_after (token_ending stand Word text) xs) (written_or_loose stand xs all Word text refl)
stops_after stand Number text xs all = number_stops (rest_after (token_ending stand Number text) xs) (written_or_loose stand xs all Number text refl)
stops_after stand Text text xs all = text_stops (rest_after (token_ending stand Text text) xs)
stops_after stand Symbol text xs all = symbol_stops (rest_after (token_ending stand Symbol text) xs)

-- ---- the cut

pub record Cut (ending : Ending) (xs : List Lexeme) (at line : ℕ) : Type 0 where
  pub pieces : List Piece
  pub spells : Spells pieces at line (rest_after ending xs)
  pub shapes : map piece_shape pieces ≡ map shape_of xs

pub cut : (ending : Ending) (xs : List Lexeme) → AreTokens xs → (at line : ℕ) → Cut ending xs at line
unfolding gap ending_of
cut ending [] all at line = record { pieces = []; spells = refl; shapes = refl }
cut ending (x ∷ xs) all at line =
    let next = at + length (gap ending x) in
    let next_line = line + newlines (gap ending x) in
    let token : Piece = record { kind = x.kind; text = x.text; at = next; line = next_line } in
    let more = cut (ending_of x) xs all.1 (next + length x.text) next_line in
    record {
      pieces = token ∷ more.pieces;
      spells = (
        rest_after (ending_of x) xs,
        record {
          skips = record {
            blanks = gap ending x;
            split = append_assoc (gap ending x) (x.text ++ text_after (ending_of x) xs) (NEWLINE ∷ [])
                ∙ ap (λ (bytes : List ℕ). gap ending x ++ bytes) (append_assoc x.text (text_after (ending_of x) xs) (NEWLINE ∷ []));
            blank = blanks_are ending x.stand x.kind (is_apart x.kind x.text);
            place = refl;
            line_is = refl;
          };
          is_token = all.0;
          whole = stops_after x.stand x.kind x.text xs all.1;
        },
        more.spells,
      );
      shapes = ap (λ (ss : List Shape). shape_of x ∷ ss) more.shapes;
    }
