-- After `same`: the two names have one value, and are known to.
use Rattle.std.proofs.Common.{◌≡◌, ℕ, suc, ◌<◌, Bool, true, false, List, [], map, length, Contains, Option, Some, None, refl, sym, ap, subst, ◌∙◌, arith}
use Rattle.std.specs.Prelude.{position}
use Rattle.std.specs.Option.{option_map, option_map_or}
use Rattle.std.specs.Str.{bytes_eq}
use Rattle.std.proofs.lemmas.List.{append-nil}
use Rattle.std.proofs.lemmas.List.Quantifiers.{position-Some}
use Rattle.dy_term.specs.Terms.{Term}
use Rattle.dy_term.specs.Sameness.{is_same}
use Rattle.dy_label.specs.Words.{Choice}
use Rattle.dy_types.specs.Facts.{first_of}
use Rattle.dy_syntax.specs.Names.{Nm, Named, Me}
use Rattle.dy_syntax.specs.Statements as statements
use Rattle.dy_syntax.specs.Files.{Decl}
use Rattle.dy_typing.specs.Names.{number_in}
use Rattle.dy_typing.specs.Knowledge.{Knowledge, value_of, same_values, same_names}
use Rattle.dy_entry.specs.Entries.{Entry}
use Rattle.dy_eval.specs.declared.written.Written.{Written}
use Rattle.dy_eval.specs.Doings.{Writes}
use Rattle.dy_eval.specs.Effects.{holds}
use Rattle.dy_eval.specs.Names.{Names, write, bytes_for}
use Rattle.dy_sound.specs.Names.{value_numbered}
use Rattle.dy_sound.specs.Knowledge.{Holds}
use Rattle.dy_sound.proofs.Lists.{Contains-none}
use Rattle.dy_sound.proofs.WrittenWords.{name_numbered}
use Rattle.dy_sound.proofs.SameValues.{same_values_hold}
use Rattle.dy_sound.specs.StatementsAreSound.{WritesSoundly}

-- A name's number is 0, or that of one of the words.
pub number_within : (words : List (List ℕ)) (name : Nm) (number : ℕ) → number_in words name ≡ Some number → number < suc (length words)
number_within words (Me line) number is = let zero : 0 ≡ number = cc in omega arith
number_within words (Named id) number is = from (position (bytes_eq id.word) words) refl is where
  from : (at : Option ℕ) → position (bytes_eq id.word) words ≡ at → option_map suc at ≡ Some number → number < suc (length words)
  from None found is = absurd cc
  from (Some before) found is =
      let below = (position-Some (bytes_eq id.word) words before [] found).0 in
      let next : suc before ≡ number = cc in
      omega arith

-- With nothing more written the names are the same.
pub write_nothing : (names : Names) → write names [] ≡ names
write_nothing names = ap (λ (written : List Written). record { principal = names.principal; session = names.session; written = written }) (append-nil names.written)

-- A test that must hold holds, and writes nothing.
pub holds_writes : (test : Bool) (more : List Written) → holds test ≡ Writes more → (test ≡ true) × ([] ≡ more)
holds_writes true more is = (refl, cc)
holds_writes false more is = absurd cc

module _ (decls : List Decl) (T : List Entry) (choice : Choice) (names : Names) (k : Knowledge) (h : Holds decls T choice names k) where
  -- the value of a name or variable, and the number that it has
  pub value_of_is : (name : Nm) (value : ℕ) → value_of k name ≡ Some value → (value_numbered names value ≡ bytes_for names name) × (value < length k.first)
  value_of_is name value is = from (number_in k.words name) refl is where
    from : (at : Option ℕ) → number_in k.words name ≡ at → option_map (first_of k.first) at ≡ Some value → (value_numbered names value ≡ bytes_for names name) × (value < length k.first)
    from None found is = absurd cc
    from (Some number) found is =
        let first : first_of k.first number ≡ value = cc in
        let written : number_in (map (λ w. w.word) names.written) name ≡ Some number = ap (λ (words : List (List ℕ)). number_in words name) h.variables ∙ found in
        let within = number_within k.words name number found in
        let count = h.is_numbered.firsts_count in
        let bound = h.is_numbered.firsts_are_bound number (omega (arith, within, count)) in (
          ap (value_numbered names) (sym first) ∙ h.same number ∙ name_numbered names name number written,
          subst (λ (n : ℕ). n < length k.first) first bound,
        )

  pub same_names_hold : (left right : Nm) → bytes_for names left ≡ bytes_for names right → Holds decls T choice names (same_names k left right)
  same_names_hold left right one = from_left (value_of k left) refl where
    from_right : (value : ℕ) → value_of k left ≡ Some value → (at : Option ℕ) → value_of k right ≡ at → Holds decls T choice names (option_map_or (same_values k value) at k)
    from_right value found None is = h
    from_right value found (Some other) is =
        let of_left = value_of_is left value found in
        let of_right = value_of_is right other is in
        same_values_hold decls T choice names k h value other (of_left.0 ∙ one ∙ sym of_right.0) of_left.1

    from_left : (at : Option ℕ) → value_of k left ≡ at → Holds decls T choice names (option_map_or (λ value. option_map_or (same_values k value) (value_of k right) k) at k)
    from_left None is = h
    from_left (Some value) is = from_right value is (value_of k right) refl

-- Where `same` goes on, the two names have one value, and what is known then holds.
pub same_is_sound : ((a b : Term) → is_same a b ≡ true → a ≡ b) → (left right : Nm) → WritesSoundly (statements.Same left right)
same_is_sound equal left right file T X handler done line names choice k more at effect knows =
    let done = holds_writes (is_same (bytes_for names left) (bytes_for names right)) more effect in
    let one = equal (bytes_for names left) (bytes_for names right) done.0 in
    let then = same_names_hold file.decls T choice names k knows.holds left right one in
    record {
      values_are_valid = λ written stands. absurd (Contains-none written (subst (λ (ws : List Written). Contains ws written) (sym done.1) stands));
      holds = subst (λ (ws : List Written). Holds file.decls T choice (write names ws) (same_names k left right)) done.1
          (subst (λ (n : Names). Holds file.decls T choice n (same_names k left right)) (sym (write_nothing names)) then);
    }
