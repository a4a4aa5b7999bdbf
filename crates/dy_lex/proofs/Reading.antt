-- Reading a source from the left, over a blank or over a token.
use Rattle.std.proofs.Common.{◌≡◌, ℕ, ◌+◌, ◌-◌, true, false, ◌==◌, cond, List, [], ◌∷◌, ◌++◌, length, get_or, take, drop, ◌<◌, ◌≤◌, Some, None, refl, sym, ap, ◌∙◌, inl, inr, add-zero, arith}
use Rattle.std.proofs.lemmas.Bool.{and_from, cond_both, cases_Bool}
use Rattle.std.proofs.lemmas.List.{append_assoc, append-nil, take-append-drop, drop-drop, drop_more, drop_all, length-drop, length-take-le, take_rest, get_or-drop}
use Rattle.std.proofs.lemmas.List.Sums.{sum_by-cons}
use mir.Val.{bool_byte}
use Rattle.std.specs.List.{list_all}
use Rattle.dy_lex.specs.declared.tokens.TokenKind.{TokenKind}
use Rattle.dy_lex.specs.Symbols.{is_blank}
use Rattle.dy_lex.specs.Tokens.{Piece, newlines, Skips, Begins, Spells, IsFaultyAfter, IsFaulty}
use Rattle.dy_lex.specs.MirrorPrefixes.{token_prefix}
use Rattle.dy_lex.proofs.PrefixLaws.{takes, nothing_found}

-- how many lines end with the byte
abbrev pub newline : ℕ → ℕ
newline b = cond (b == 10) 1 0

-- what the first byte adds to the lines
pub newlines-cons : (b : ℕ) (more : List ℕ) → newlines (b ∷ more) ≡ newline b + newlines more
newlines-cons b more = sum_by-cons newline b more

-- a source that begins with a blank, and goes on with more
module _ (b at line : ℕ) (more : List ℕ) (blank : is_blank b ≡ true) where
  -- blanks after it are skipped with it
  skips_blank : (next next_line : ℕ) (rest : List ℕ) → Skips (at + 1) (line + newline b) more next next_line rest → Skips at line (b ∷ more) next next_line rest
  skips_blank next next_line rest skips = record {
    blanks = b ∷ skips.blanks;
    split = ap (λ (bytes : List ℕ). b ∷ bytes) skips.split;
    blank = and_from (is_blank b) (list_all is_blank skips.blanks) blank skips.blank;
    place = omega arith;
    line_is = omega (arith, newlines-cons b skips.blanks);
  }

  -- the token after it is the first of the source
  begins_blank : (token : Piece) (rest : List ℕ) → Begins token (at + 1) (line + newline b) more rest → Begins token at line (b ∷ more) rest
  begins_blank token rest begins = record {
    skips = skips_blank token.at token.line (token.text ++ rest) begins.skips;
    is_token = begins.is_token;
    whole = begins.whole;
  }

  -- the tokens after a blank are those of the source
  pub spells_blank : (tokens : List Piece) → Spells tokens (at + 1) (line + newline b) more → Spells tokens at line (b ∷ more)
  spells_blank [] blanks = and_from (is_blank b) (list_all is_blank more) blank blanks
  spells_blank (token ∷ tokens) spells = (spells.0, begins_blank token spells.0 spells.1, spells.2)

  -- what is no token after it is none of the source
  faulty_after_blank : (tokens : List Piece) (fault : ℕ) → IsFaultyAfter tokens (at + 1) (line + newline b) more fault → IsFaultyAfter tokens at line (b ∷ more) fault
  faulty_after_blank [] fault faulty = (faulty.0, faulty.1, skips_blank faulty.0 fault faulty.1 faulty.2, faulty.3)
  faulty_after_blank (token ∷ tokens) fault faulty = (faulty.0, begins_blank token faulty.0 faulty.1, faulty.2)

  -- a fault after a blank is one of the source
  pub faulty_blank : (fault : ℕ) → IsFaulty (at + 1) (line + newline b) more fault → IsFaulty at line (b ∷ more) fault
  faulty_blank fault faulty = (faulty.0, faulty_after_blank faulty.0 fault faulty.1)

-- a source that begins with no blank
pub skips_none : (at line : ℕ) (source : List ℕ) → Skips at line source at line source
skips_none at line source = record { blanks = []; split = refl; blank = refl; place = omega arith; line_is = omega arith }

-- the token that is found at the start
abbrev pub found_piece : TokenKind → ℕ → ℕ → ℕ → List ℕ → Piece
found_piece kind len at line source = record { kind = kind; text = take len source; at = at; line = line }

-- the source begins with the token that is found
pub begins_found : (kind : TokenKind) (len at line : ℕ) (source : List ℕ) → token_prefix source ≡ Some (kind, len) → Begins (found_piece kind len at line source) at line source (drop len source)
begins_found kind len at line source found =
    let taken = takes source kind len found in
    record {
      skips = rw take-append-drop (skips_none at line source);
      is_token = taken.is_token;
      whole = taken.whole;
    }

-- where nothing is found, and no blank stands, there is a fault
pub faulty_here : (b at line : ℕ) (more : List ℕ) → is_blank b ≡ false → token_prefix (b ∷ more) ≡ None → IsFaulty at line (b ∷ more) line
faulty_here b at line more not_blank none = ([], (at, b ∷ more, skips_none at line (b ∷ more), nothing_found b more not_blank none))

-- ---- the loop

-- What was read leads from the start of the source to this place and line.
pub record Reads (source : List ℕ) (read : List Piece) (at line : ℕ) : Type 0 where
  pub place : at ≤ length source
  pub lines : line ≤ at + 1
  pub spells : (tokens : List Piece) → Spells tokens at line (drop at source) → Spells (read ++ tokens) 0 1 source
  pub faulty : (fault : ℕ) → IsFaulty at line (drop at source) fault → IsFaulty 0 1 source fault

-- the first byte of the rest
pub first_of_rest : (source : List ℕ) (at : ℕ) → get_or (take (length source - at) (drop at source)) 0 0 ≡ get_or source at 0
first_of_rest source at = rw (take_rest, get_or-drop, add-zero) refl

-- the code's count of a newline
pub newline_is : (b : ℕ) → bool_byte (b == 10) ≡ newline b
newline_is b = elim (cases_Bool (b == 10)) [ inl ends ↦ rw ends refl | inr other ↦ rw other refl ]

-- at the start nothing was read
pub reads_none : (source : List ℕ) → Reads source [] 0 1
reads_none source = record { place = omega arith; lines = omega arith; spells = λ tokens spells. spells; faulty = λ fault faulty. faulty }

module _ (source : List ℕ) (read : List Piece) (at line : ℕ) (reads : Reads source read at line) where
  -- over a blank
  pub reads_blank : at < length source → is_blank (get_or source at 0) ≡ true → Reads source read (at + 1) (line + newline (get_or source at 0))
  reads_blank within blank =
      let b = get_or source at 0 in
      let cut : drop at source ≡ b ∷ drop (at + 1) source = drop_more source at 0 within in
      record {
        place = omega arith;
        lines = cond_both (b == 10) 1 0 (λ n. line + n ≤ at + 1 + 1) (λ ends. omega arith) (λ other. omega arith);
        spells = λ tokens spells. reads.spells tokens (rw cut (spells_blank b at line (drop (at + 1) source) blank tokens spells));
        faulty = λ fault faulty. reads.faulty fault (rw cut (faulty_blank b at line (drop (at + 1) source) blank fault faulty));
      }

  -- over a token
  pub reads_token : (kind : TokenKind) (len : ℕ) → token_prefix (drop at source) ≡ Some (kind, len) → Reads source (read ++ found_piece kind len at line (drop at source) ∷ []) (at + len) line
  reads_token kind len found =
      let taken = takes (drop at source) kind len found in
      let token = found_piece kind len at line (drop at source) in
      let begins : Begins token at line (drop at source) (drop (at + len) source) = rw (← drop-drop len at source) (begins_found kind len at line (drop at source) found) in
      let place : at + length token.text ≡ at + len = omega (arith, length-take-le len (drop at source) taken.within) in
      record {
        place = omega (arith, taken.within, length-drop at source);
        lines = omega arith;
        spells = λ tokens spells. rw append_assoc (reads.spells (token ∷ tokens) (drop (at + len) source, begins, rw place spells));
        faulty = λ fault faulty. reads.faulty fault (token ∷ faulty.0, (drop (at + len) source, begins, rw place faulty.1));
      }

  -- at the end all is read
  pub reads_all : length source ≤ at → Spells read 0 1 source
  reads_all ended =
      let blanks : Spells [] at line (drop at source) = rw drop_all refl in
      let spells : Spells (read ++ []) 0 1 source = reads.spells [] blanks in
      rw append-nil at spells

  -- where no token begins, there is the fault
  pub reads_fault : at < length source → is_blank (get_or source at 0) ≡ false → token_prefix (drop at source) ≡ None → IsFaulty 0 1 source line
  reads_fault within not_blank none =
      let cut : drop at source ≡ get_or source at 0 ∷ drop (at + 1) source = drop_more source at 0 within in
      reads.faulty line (rw cut (faulty_here (get_or source at 0) at line (drop (at + 1) source) not_blank (ap token_prefix (sym cut) ∙ none)))
