-- Facts when variables are numbered anew, when two values are one, and when more has happened.
use Rattle.std.proofs.Common.{◌≡◌, ℕ, ◌<◌, min, max, Bool, true, false, length, List, [], ◌∷◌, ◌++◌, map, Contains, refl, sym, ap, subst, ◌∙◌, inl, inr, arith}
use Rattle.std.specs.Prelude.{◌==◌, if◌then◌else◌}
use Rattle.std.proofs.lemmas.Bool.{cases_lt, eqb-true}
use Rattle.std.proofs.lemmas.List.{length-append, length-map, get_or-map, get_or_past, get_or_append_left, get_or_push}
use Rattle.std.proofs.lemmas.List.Elements.{Contains-append_left}
use Rattle.dy_label.specs.Words.{StaticLabel}
use Rattle.dy_types.specs.Facts.{Fact, first_of, guard_of, guards_of, HasFact}
use Rattle.dy_typing.proofs.Elements.{filter_map-from, Contains-filter_map}
use Rattle.dy_typing.proofs.ValueLaws.{Laws}
use Rattle.dy_typing.proofs.Meets.{MeetImplies-each, MeetImplies-from_each}
use Rattle.dy_typing.proofs.Known.{fact_with, HasFact-itself}
use Rattle.dy_typing.proofs.Numbering.{first_of-get_or, renamed_number}

renamed_number-past : (value other number : ℕ) → value < number → other < number → renamed_number value other number ≡ number
renamed_number-past value other number first second = chosen (number == max value other) refl where
  chosen : (b : Bool) → (number == max value other) ≡ b → (if b then min value other else number) ≡ number
  chosen true is = let same = eqb-true number (max value other) is in absurd (omega arith)
  chosen false is = refl

-- The new first of a variable is the old one, renamed.
pub first_of-unite : (first : List ℕ) (value other : ℕ) → value < length first → other < length first → (number : ℕ)
    → first_of (map (renamed_number value other) first) number ≡ renamed_number value other (first_of first number)
first_of-unite first value other here there number = elim (cases_lt number (length first)) [
  | inl within ↦
      first_of-get_or (map (renamed_number value other) first) number
      ∙ get_or-map (renamed_number value other) first number number number within
      ∙ ap (renamed_number value other) (sym (first_of-get_or first number))
  | inr past ↦
      let mapped = length-map first (renamed_number value other) in
      first_of-get_or (map (renamed_number value other) first) number
      ∙ get_or_past (map (renamed_number value other) first) number number (omega arith)
      ∙ sym (renamed_number-past value other number (omega arith) (omega arith))
      ∙ ap (renamed_number value other) (sym (first_of-get_or first number ∙ get_or_past first number number past))
]

-- One more variable leaves the firsts of the others, and is its own.
pub first_of-bind : (first : List ℕ) (number : ℕ) → first_of (first ++ length first ∷ []) number ≡ first_of first number
first_of-bind first number = elim (cases_lt number (length first)) [
  | inl before ↦
      first_of-get_or (first ++ length first ∷ []) number
      ∙ get_or_append_left first (length first ∷ []) number number before
      ∙ sym (first_of-get_or first number)
  | inr past ↦
      let was = first_of-get_or first number ∙ get_or_past first number number past in
      elim (cases_lt (length first) number) [
        | inl later ↦
            let more = length-append first (length first ∷ []) in
            first_of-get_or (first ++ length first ∷ []) number
            ∙ get_or_past (first ++ length first ∷ []) number number (omega arith)
            ∙ sym was
        | inr last ↦
            let at : length first ≡ number = omega arith in
            first_of-get_or (first ++ length first ∷ []) number
            ∙ get_or_push first (length first) number number at ∙ at ∙ sym was
      ]
]

module _ (first anew : List ℕ) (rename : ℕ → ℕ) (each_renamed : (number : ℕ) → first_of anew number ≡ rename (first_of first number)) where
  firsts_renamed : (args : List ℕ) → map (first_of anew) args ≡ map rename (map (first_of first) args)
  firsts_renamed [] = refl
  firsts_renamed (arg ∷ args) =
      let one = each_renamed arg in
      let rest = firsts_renamed args in cc

  guard_renamed : Laws → (facts : List Fact) (event args : List ℕ) (label : StaticLabel)
      → Contains (guards_of first facts event (map (first_of first) args)) label
      → HasFact anew facts event (map (first_of anew) args) label
  guard_renamed laws facts event args label is =
      let found = filter_map-from (guard_of first event (map (first_of first) args)) facts label is in
      let fact = found.0 in
      let with = fact_with first event (map (first_of first) args) label fact found.2 in
      let values : map (first_of anew) fact.args ≡ map (first_of anew) args =
      firsts_renamed fact.args ∙ ap (map rename) with.are_values ∙ sym (firsts_renamed args) in
      subst (λ (l : StaticLabel). HasFact anew facts event (map (first_of anew) args) l) with.is_guard
      (subst (λ (vs : List ℕ). HasFact anew facts event vs fact.guard) values
      (subst (λ (name : List ℕ). HasFact anew facts name (map (first_of anew) fact.args) fact.guard) with.is_event
      (HasFact-itself laws anew facts fact found.1)))

  -- What has happened has happened where each first variable has a new number.
  pub HasFact-renamed_number : Laws → (facts : List Fact) (event args : List ℕ) (guard : StaticLabel)
      → HasFact first facts event (map (first_of first) args) guard
      → HasFact anew facts event (map (first_of anew) args) guard
  HasFact-renamed_number laws facts event args guard has =
      MeetImplies-from_each laws
      (guards_of anew facts event (map (first_of anew) args)) (guards_of first facts event (map (first_of first) args))
      (guard_renamed laws facts event args) guard has

-- What has happened has happened with the values that are one.
pub HasFact-unite : Laws → (first : List ℕ) (value other : ℕ) → value < length first → other < length first
    → (facts : List Fact) (event args : List ℕ) (guard : StaticLabel)
    → HasFact first facts event (map (first_of first) args) guard
    → HasFact (map (renamed_number value other) first) facts event (map (first_of (map (renamed_number value other) first)) args) guard
HasFact-unite laws first value other here there facts event args guard has =
    HasFact-renamed_number first (map (renamed_number value other) first) (renamed_number value other)
    (first_of-unite first value other here there) laws facts event args guard has

-- What has happened has happened where one more variable is bound.
pub HasFact-bind : Laws → (first : List ℕ) (facts : List Fact) (event args : List ℕ) (guard : StaticLabel)
    → HasFact first facts event (map (first_of first) args) guard
    → HasFact (first ++ length first ∷ []) facts event (map (first_of (first ++ length first ∷ [])) args) guard
HasFact-bind laws first facts event args guard has =
    HasFact-renamed_number first (first ++ length first ∷ []) (λ number. number) (first_of-bind first) laws facts event args guard has

-- What has happened has happened where more has.
pub HasFact-more : Laws → (first : List ℕ) (facts more : List Fact) (event values : List ℕ) (guard : StaticLabel)
    → HasFact first facts event values guard → HasFact first (facts ++ more) event values guard
HasFact-more laws first facts more event values guard has =
    MeetImplies-from_each laws (guards_of first (facts ++ more) event values) (guards_of first facts event values)
    (λ label is.
    let found = filter_map-from (guard_of first event values) facts label is in
    MeetImplies-each laws (guards_of first (facts ++ more) event values) label
    (Contains-filter_map (guard_of first event values) (facts ++ more) found.0 label
    (Contains-append_left facts more found.0 found.1) found.2))
    guard has
