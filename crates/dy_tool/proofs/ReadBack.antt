-- A canonical text is read as the same file but for line numbers.
use Rattle.std.proofs.Common.{◌≡◌, ℕ, zero, suc, ◌≤◌, true, List, [], ◌∷◌, ◌++◌, length, refl, sym, inl, inr, arith}
use Rattle.std.specs.Prelude.{slice_get}
use Rattle.std.specs.Option.{option_to_list}
use Rattle.std.specs.List.{list_all, flat_map}
use Rattle.std.proofs.lemmas.Bool.{and_parts, and_from, le-leb, leb-true}
use Rattle.std.proofs.lemmas.List.{length-map}
use Rattle.dy_term.specs.declared.limits.TheConstants.{MAX_LENGTH}
use Rattle.dy_lex.specs.declared.limits.TheConstants.{MAX_SOURCE_BYTES}
use Rattle.dy_lex.specs.declared.tokens.TokenKind.{TokenKind}
use Rattle.dy_lex.specs.declared.tokens.TokenKind.TheVariants as kinds
use Rattle.dy_lex.specs.Tokens.{Piece}
use Rattle.dy_syntax.specs.Files.{File}
use Rattle.dy_syntax.specs.SameFiles.{AreSame}
use Rattle.dy_grammar.specs.Terminals.{text_inside}
use Rattle.dy_grammar.specs.Levels.{is_shallow}
use Rattle.dy_grammar.specs.Files.{IsFile, with_end}
use Rattle.dy_parse.specs.declared.errors.LimitName.{LimitName}
use Rattle.dy_parse.specs.declared.errors.LimitName.TheVariants.{Word, Text, Nesting}
use Rattle.dy_parse.specs.Limits.{breaks, lines_of_bytes, excess_by_kind, excess_in_token, excess_in_file, FileBreaks}
use Rattle.dy_parse.proofs.Depth.Depths.{in_left, in_right}
use Rattle.dy_show.specs.Canonical.{canon}
use Rattle.dy_show.specs.Readings.{fits_kind, is_short, ReadsAs, ReadsAgain}
use Rattle.dy_tool.proofs.Within.{IsWithin, in_either, few_lines}
use Rattle.dy_tool.specs.Showing.{IsTextOfFile, ReadsBack}

-- ---- words and texts

none_past : (which : LimitName) (lines : List ℕ) (k : ℕ) → length lines ≤ k → IsWithin (breaks which (option_to_list (slice_get lines k)))
none_past which [] k few other line is_in = is_in
none_past which (first ∷ lines) zero few other line is_in = absurd (omega arith)
none_past which (first ∷ lines) (suc k) few other line is_in = none_past which lines k (omega arith) other line is_in

lines_length : (line : ℕ) (bytes : List ℕ) → length (lines_of_bytes line bytes) ≡ length bytes
lines_length line bytes = length-map bytes (λ b. line)

kind_is_short : (kind : TokenKind) (t : Piece) → IsWithin (excess_by_kind kind t) → fits_kind kind t.text ≡ true
kind_is_short kinds.Word t free = le-leb (length t.text) MAX_LENGTH
    (omega (arith, lines_length t.line t.text, few_lines Word (lines_of_bytes t.line t.text) MAX_LENGTH free))
kind_is_short kinds.Number t free = refl
kind_is_short kinds.Text t free = le-leb (length (text_inside t.text)) MAX_LENGTH
    (omega (arith, lines_length t.line (text_inside t.text), few_lines Text (lines_of_bytes t.line (text_inside t.text)) MAX_LENGTH free))
kind_is_short kinds.Symbol t free = refl

short_kind_is_free : (kind : TokenKind) (t : Piece) → fits_kind kind t.text ≡ true → IsWithin (excess_by_kind kind t)
short_kind_is_free kinds.Word t short = none_past Word (lines_of_bytes t.line t.text) MAX_LENGTH
    (omega (arith, lines_length t.line t.text, leb-true (length t.text) MAX_LENGTH short))
short_kind_is_free kinds.Number t short = λ which line is_in. is_in
short_kind_is_free kinds.Text t short = none_past Text (lines_of_bytes t.line (text_inside t.text)) MAX_LENGTH
    (omega (arith, lines_length t.line (text_inside t.text), leb-true (length (text_inside t.text)) MAX_LENGTH short))
short_kind_is_free kinds.Symbol t short = λ which line is_in. is_in

tokens_are_short : (ts : List Piece) → IsWithin (flat_map excess_in_token ts) → list_all is_short ts ≡ true
tokens_are_short [] free = refl
tokens_are_short (t ∷ ts) free =
    and_from (is_short t) (list_all is_short ts)
    (kind_is_short t.kind t (λ which line is_in. free which line (in_left _ (excess_in_token t) (flat_map excess_in_token ts) is_in)))
    (tokens_are_short ts (λ which line is_in. free which line (in_right _ (excess_in_token t) (flat_map excess_in_token ts) is_in)))

short_tokens_are_free : (ts : List Piece) → list_all is_short ts ≡ true → IsWithin (flat_map excess_in_token ts)
short_tokens_are_free [] short which line is_in = is_in
short_tokens_are_free (t ∷ ts) short which line is_in =
    let both = and_parts (is_short t) (list_all is_short ts) short in
    elim (in_either _ (excess_in_token t) (flat_map excess_in_token ts) is_in) [
      | inl here ↦ short_kind_is_free t.kind t both.0 which line here
      | inr later ↦ short_tokens_are_free ts both.1 which line later
    ]

-- ---- files

-- the laws of the crates below
pub record ShowingLaws : Type 0 where
  pub shallow : (file : File) (tokens : List Piece) (is_file : IsFile file tokens) → ((line : ℕ) → FileBreaks Nesting line file → ⊥) → is_shallow is_file.tree ≡ true
  pub same_limits : (a b : File) (which : LimitName) (line : ℕ) → AreSame a b → FileBreaks which line a → (other : ℕ) × FileBreaks which other b
  pub reads_again : (source : List ℕ) (file : File) → ReadsAs source file → ReadsAgain file

module _ (laws : ShowingLaws) (bytes : List ℕ) (file : File) (reads : IsTextOfFile bytes file) where
  -- the file breaks no limit
  file_is_free : IsWithin (excess_in_file file)
  file_is_free which line is_in = reads.fits which line (in_right _ (flat_map excess_in_token reads.tokens) (excess_in_file file) is_in)

  reads_as : ReadsAs bytes file
  reads_as = record {
    tokens = reads.tokens;
    cut = reads.cut;
    is_file = reads.is_file;
    short = tokens_are_short reads.tokens (λ which line is_in. reads.fits which line (in_left _ (flat_map excess_in_token reads.tokens) (excess_in_file file) is_in));
    shallow = laws.shallow file (with_end bytes reads.tokens) reads.is_file (file_is_free Nesting);
  }

  shown : ReadsAgain file
  shown = laws.reads_again bytes file reads_as

  -- and so does the file that its canonical text is
  shown_is_free : IsWithin (flat_map excess_in_token shown.reads.tokens ++ excess_in_file shown.again)
  shown_is_free which line is_in =
      elim (in_either _ (flat_map excess_in_token shown.reads.tokens) (excess_in_file shown.again) is_in) [
        | inl here ↦ short_tokens_are_free shown.reads.tokens shown.reads.short which line here
        | inr later ↦ (let there = laws.same_limits shown.again file which line (sym shown.same) later in file_is_free which there.0 there.1)
      ]

  pub reads_back : length (canon file) ≤ MAX_SOURCE_BYTES → ReadsBack file
  reads_back few = record {
    again = shown.again;
    reads = record { few = few; tokens = shown.reads.tokens; cut = shown.reads.cut; is_file = shown.reads.is_file; fits = shown_is_free };
    same = shown.same;
  }
