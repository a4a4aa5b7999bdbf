-- What reading tokens says of the source that they are cut from.
use Rattle.std.proofs.Common.{◌≡◌, ℕ, ◌+◌, ◌-◌, ◌≤◌, List, [], ◌∷◌, ◌++◌, length, Option, Some, None, refl, sym, ◌∙◌, ap, subst, inl, inr, arith}
use Rattle.std.specs.Prelude.{Ok, Err, slice_get, unwrap_or}
use Rattle.std.specs.Option.{option_map}
use Rattle.std.specs.List.{flat_map}
use Rattle.std.proofs.lemmas.List.{append-nil, length-append}
use Rattle.std.proofs.lemmas.Option.{slice_get_past}
use Rattle.dy_lex.specs.declared.limits.TheConstants.{MAX_SOURCE_BYTES}
use Rattle.dy_lex.specs.Tokens.{Piece, newlines, Spells}
use Rattle.dy_syntax.specs.Files.{File}
use Rattle.dy_grammar.specs.Files.{with_end, IsFaultOn}
use Rattle.dy_grammar.specs.Mirrors.FileReading.{file_at}
use Rattle.dy_grammar.proofs.FileLaws.{FailsWith, file_sound, file_fault}
use Rattle.dy_grammar.specs.Files.{BeginsFile, IsFile}
use Rattle.dy_parse.specs.Limits.{Excess, excess_in_token, excess_in_file, excess_in}
use Rattle.dy_parse.specs.Reading.{Reads, IsBadLine, IsOverLimit}
use Rattle.dy_parse.specs.Mirrors.Files.{line_where}
use Rattle.dy_parse.specs.Mirrors.Limits.{note_all}
use Rattle.dy_parse.proofs.LimitLaws.Folds.{note_all_append}
use Rattle.dy_parse.proofs.LimitLaws.Least.{fits_at_none, first_at_some}

after_prefix : (prefix after : List Piece) (t : Piece) → slice_get (prefix ++ t ∷ after) (length prefix) ≡ Some t
after_prefix [] after t = refl
after_prefix (x ∷ prefix) after t = after_prefix prefix after t

-- the token where so many are left
token_where : (tokens prefix after : List Piece) (t : Piece) (left last : ℕ) → tokens ≡ prefix ++ t ∷ after → length (t ∷ after) ≡ left → line_where left tokens last ≡ t.line
token_where tokens prefix after t left last split left_is =
    let total : length tokens ≡ length prefix + length (t ∷ after) = ap length split ∙ length-append prefix (t ∷ after) in
    let place : length tokens - left ≡ length prefix = omega (arith, total, left_is) in
    ap (λ n. unwrap_or (option_map (λ t. t.line) (slice_get tokens n)) last) place
    ∙ ap (λ (xs : List Piece). unwrap_or (option_map (λ t. t.line) (slice_get xs (length prefix))) last) split
    ∙ ap (λ o. unwrap_or (option_map (λ t. t.line) o) last) (after_prefix prefix after t)

none_where : (tokens : List Piece) (left last : ℕ) → 0 ≡ left → line_where left tokens last ≡ last
none_where tokens left last left_is =
    ap (λ o. unwrap_or (option_map (λ t. t.line) o) last) (slice_get_past tokens (length tokens - left) (omega (arith, left_is)))

module _ (source : List ℕ) (tokens : List Piece) where
  abbrev pub all : List Piece
  all = with_end source tokens

  -- where reading fails the tokens stop being a file
  pub fault_on : (left : ℕ) → file_at all ≡ Err left → IsFaultOn (line_where left all (1 + newlines source)) source tokens
  fault_on left failed = go f.suffix refl where
    f : FailsWith all left
    f = file_fault all left failed

    go : (suffix : List Piece) → f.suffix ≡ suffix → IsFaultOn (line_where left all (1 + newlines source)) source tokens
    go [] same =
        let same_all : all ≡ f.prefix = f.split ∙ ap (λ (xs : List Piece). f.prefix ++ xs) same ∙ append-nil f.prefix in
        inr (
          record {
            begins = subst BeginsFile (sym same_all) f.begins;
            none = λ file is_file. f.short same file (subst (λ (xs : List Piece). IsFile file xs) same_all is_file);
          },
          none_where all left (1 + newlines source) (ap length (sym same) ∙ f.left_is),
        )
    go (t ∷ after) same =
        let split : all ≡ f.prefix ++ t ∷ after = f.split ∙ ap (λ (xs : List Piece). f.prefix ++ xs) same in
        inl (
          t,
          record { prefix = f.prefix; after = after; split = split; begins = f.begins; stops = f.stops t after same },
          token_where all f.prefix after t left (1 + newlines source) split (ap length (sym same) ∙ f.left_is),
        )

  module _ (few : length source ≤ MAX_SOURCE_BYTES) (cut : Spells tokens 0 1 source) where
    pub bad_line : (left : ℕ) → file_at all ≡ Err left → IsBadLine source (line_where left all (1 + newlines source))
    bad_line left failed = record { few = few; stops = inr (tokens, cut, fault_on left failed) }

    module _ (file : File) (first : Option Excess) (read : file_at all ≡ Ok (file, [])) (noted : first ≡ note_all (flat_map excess_in_token tokens) None) where
      pub whole : note_all (excess_in file tokens) None ≡ note_all (excess_in_file file) first
      whole = note_all_append (flat_map excess_in_token tokens) (excess_in_file file) None ∙ ap (note_all (excess_in_file file)) (sym noted)

      pub reads : note_all (excess_in_file file) first ≡ None → Reads source file
      reads none_ = record { few = few; tokens = tokens; cut = cut; is_file = file_sound all (file, []) read; fits = fits_at_none file tokens (whole ∙ none_) }

      pub over_limit : (x : Excess) → note_all (excess_in_file file) first ≡ Some x → IsOverLimit source x.line x.which
      over_limit x some = record { few = few; tokens = tokens; file = file; cut = cut; is_file = file_sound all (file, []) read; first = first_at_some file tokens x (whole ∙ some) }
