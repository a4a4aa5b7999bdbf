-- A choice that agrees with what is written.
use Rattle.std.proofs.Common.{◌≡◌, ℕ, zero, suc, ◌+◌, List, [], get_or, Option, Some, None, unwrap_or, refl, ap, subst, arith}
use Rattle.std.specs.Option.{option_map}
use Rattle.std.specs.List.{position}
use Rattle.std.specs.Str.{bytes_eq}
use Rattle.std.proofs.lemmas.List.Quantifiers.{position-Some}
use Rattle.std.proofs.lemmas.Slice.Eq.{bytes_eq-Decides}
use Rattle.dy_label.specs.Words.{Choice}
use Rattle.dy_syntax.specs.Names.{Id}
use Rattle.dy_eval.specs.Names.{Names}
use Rattle.dy_sound.specs.Names.{principal_written, Agrees}

-- the principal that is written in place of the handler's name of this number, or else that of `self`
abbrev written_for : Names → List (List ℕ) → ℕ → List ℕ
written_for names words zero = names.principal
written_for names words (suc n) = unwrap_or (principal_written names (get_or words n [])) names.principal

module _ (words : List (List ℕ)) (newest : ℕ) (names : Names) where
  abbrev the_choice : Choice
  the_choice = record {
    principals = written_for names words;
    session = names.session;
    prior = newest;
    next = newest + 1;
    rises = omega arith;
  }

  is_written_for : (id : Id) (principal : List ℕ) (number : ℕ) (found : Option ℕ) → position (bytes_eq id.word) words ≡ found → option_map suc found ≡ Some number
      → principal_written names id.word ≡ Some principal → written_for names words number ≡ principal
  is_written_for id principal number None at is written = absurd cc
  is_written_for id principal number (Some n) at is written =
      let same : suc n ≡ number = cc in
      let passes = (position-Some (bytes_eq id.word) words n [] at).1 in
      let word : id.word ≡ get_or words n [] = (bytes_eq-Decides id.word (get_or words n [])).0 passes in
      subst (λ (k : ℕ). written_for names words k ≡ principal) same
      (ap (λ (p : Option (List ℕ)). unwrap_or p names.principal)
      (subst (λ (w : List ℕ). principal_written names w ≡ Some principal) word written))

  -- There is a choice that agrees with what is written.
  pub some_choice_agrees : (choice : Choice) × Agrees words newest names choice
  some_choice_agrees = (
    the_choice,
    record {
      self = refl;
      session = refl;
      prior = refl;
      next = refl;
      named = λ id number principal numbered written.
          is_written_for id principal number (position (bytes_eq id.word) words) refl numbered written;
    },
  )
