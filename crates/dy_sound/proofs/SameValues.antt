-- Knowledge once two values are known to be one.
use Rattle.std.proofs.Common.{◌≡◌, ℕ, ◌<◌, ◌≤◌, min, max, Bool, List, map, length, get_or, inl, inr, refl, sym, ap, subst, ◌∙◌, arith}
use Rattle.std.specs.Prelude.{◌==◌, if◌then◌else◌}
use Rattle.std.proofs.lemmas.Bool.{cases_lt, cases_Bool, eqb-true}
use Rattle.std.proofs.lemmas.List.{length-map, get_or-map, get_or_past}
use Rattle.std.proofs.lemmas.Option.{unwrap_or-slice_get}
use Rattle.dy_term.specs.Terms.{Term}
use Rattle.dy_label.specs.Words.{Choice}
use Rattle.dy_types.specs.Claims.{identify_with}
use Rattle.dy_types.specs.Facts.{first_of}
use Rattle.dy_syntax.specs.Files.{Decl}
use Rattle.dy_typing.specs.Knowledge.{Knowledge, known_at, unite, with_value, same_values}
use Rattle.dy_entry.specs.Entries.{Entry}
use Rattle.dy_eval.specs.Names.{Names}
use Rattle.dy_sound.specs.Names.{value_numbered}
use Rattle.dy_sound.specs.Knowledge.{KnownHolds, Holds}
use Rattle.dy_sound.proofs.OneValue.{both_hold, with_value_holds}

first_of-get_or : (first : List ℕ) (number : ℕ) → first_of first number ≡ get_or first number number
first_of-get_or first number = unwrap_or-slice_get first number number

first_of-map : (f : ℕ → ℕ) (first : List ℕ) (number : ℕ) → number < length first → first_of (map f first) number ≡ f (first_of first number)
first_of-map f first number within =
    first_of-get_or (map f first) number ∙ get_or-map f first number number number within ∙ sym (ap f (first_of-get_or first number))

first_of-past : (first : List ℕ) (number : ℕ) → length first ≤ number → first_of first number ≡ number
first_of-past first number past = first_of-get_or first number ∙ get_or_past first number number past

-- of two numbers the greater one is known under the lesser
abbrev lesser_for : ℕ → ℕ → ℕ → ℕ
lesser_for value other number = if number == max value other then min value other else number

lesser_for_within : (value other number count : ℕ) → value < count → number < count → lesser_for value other number < count
lesser_for_within value other number count below here = elim (cases_Bool (number == max value other)) [
  | inl is ↦ subst (λ (b : Bool). (if b then min value other else number) < count) (sym is) (omega arith)
  | inr differs ↦ subst (λ (b : Bool). (if b then min value other else number) < count) (sym differs) here
]

-- The lesser and the greater of two numbers have one value, where both do.
lesser_is_greater : (names : Names) (value other : ℕ) → value_numbered names value ≡ value_numbered names other
    → value_numbered names (min value other) ≡ value_numbered names (max value other)
lesser_is_greater names value other same = elim (cases_lt value other) [
  | inl less ↦
      let least : min value other ≡ value = omega arith in
      let most : max value other ≡ other = omega arith in
      ap (value_numbered names) least ∙ same ∙ sym (ap (value_numbered names) most)
  | inr rest ↦
      let least : min value other ≡ other = omega arith in
      let most : max value other ≡ value = omega arith in
      ap (value_numbered names) least ∙ sym same ∙ sym (ap (value_numbered names) most)
]

least_is_first : (names : Names) (value other : ℕ) → value_numbered names value ≡ value_numbered names other
    → value_numbered names (min value other) ≡ value_numbered names value
least_is_first names value other same = elim (cases_lt value other) [
  | inl less ↦ let least : min value other ≡ value = omega arith in ap (value_numbered names) least
  | inr rest ↦ let least : min value other ≡ other = omega arith in ap (value_numbered names) least ∙ sym same
]

lesser_for_same : (names : Names) (value other number : ℕ) → value_numbered names value ≡ value_numbered names other
    → value_numbered names (lesser_for value other number) ≡ value_numbered names number
lesser_for_same names value other number same = elim (cases_Bool (number == max value other)) [
  | inl is ↦
      subst (λ (b : Bool). value_numbered names (if b then min value other else number) ≡ value_numbered names number) (sym is)
      (lesser_is_greater names value other same ∙ sym (ap (value_numbered names) (eqb-true number (max value other) is)))
  | inr differs ↦ subst (λ (b : Bool). value_numbered names (if b then min value other else number) ≡ value_numbered names number) (sym differs) refl
]

module _ (decls : List Decl) (T : List Entry) (choice : Choice) (names : Names) (k : Knowledge) (h : Holds decls T choice names k)
    (value other : ℕ) (one : value_numbered names value ≡ value_numbered names other) where
  then_same : (number : ℕ) → value_numbered names (first_of (unite k value other).first number) ≡ value_numbered names number
  then_same number = elim (cases_lt number (length k.first)) [
    | inl within ↦
        ap (value_numbered names) (first_of-map (lesser_for value other) k.first number within)
        ∙ lesser_for_same names value other (first_of k.first number) one ∙ h.same number
    | inr past ↦
        let count = length-map k.first (lesser_for value other) in
        ap (value_numbered names) (first_of-past (unite k value other).first number (omega arith))
  ]

  united_within : value < length k.first → (number : ℕ) → number < length (unite k value other).first
      → first_of (unite k value other).first number < length (unite k value other).first
  united_within below number here =
      let count = length-map k.first (lesser_for value other) in
      let within : number < length k.first = omega arith in
      let moved = first_of-map (lesser_for value other) k.first number within in
      let less = lesser_for_within value other (first_of k.first number) (length k.first) below (h.is_numbered.firsts_are_bound number within) in
      omega (arith, moved, less, count)

  unite_holds : value < length k.first → Holds decls T choice names (unite k value other)
  unite_holds below = record {
    variables = h.variables;
    is_numbered = record {
      firsts_count = length-map k.first (lesser_for value other) ∙ h.is_numbered.firsts_count;
      values_count = h.is_numbered.values_count;
      firsts_are_bound = united_within below;
      args_are_bound = λ fact stands arg has. let count = length-map k.first (lesser_for value other) in let bound = h.is_numbered.args_are_bound fact stands arg has in omega (arith, count, bound);
    };
    same = then_same;
    values_hold = h.values_hold;
    facts_hold = h.facts_hold;
  }

  known_of_both : KnownHolds decls T choice (value_numbered names (min value other)) (identify_with (known_at k value) (known_at k other))
  known_of_both =
      subst (λ (v : Term). KnownHolds decls T choice v (identify_with (known_at k value) (known_at k other))) (sym (least_is_first names value other one))
      (both_hold decls T choice (value_numbered names value) (known_at k value) (known_at k other) (h.values_hold value)
      (subst (λ (v : Term). KnownHolds decls T choice v (known_at k other)) (sym one) (h.values_hold other)))

  abbrev together : Knowledge
  together = with_value (unite k value other) (min value other) (identify_with (known_at k value) (known_at k other))

  -- Two values that are one may be known to be.
  pub same_values_hold : value < length k.first → Holds decls T choice names (same_values k value other)
  same_values_hold below = elim (cases_Bool (value == other)) [
    | inl is ↦ subst (λ (b : Bool). Holds decls T choice names (if b then k else together)) (sym is) h
    | inr differs ↦ subst (λ (b : Bool). Holds decls T choice names (if b then k else together)) (sym differs)
        (with_value_holds decls T choice names (unite k value other) (unite_holds below) (min value other) (identify_with (known_at k value) (known_at k other)) known_of_both)
  ]
