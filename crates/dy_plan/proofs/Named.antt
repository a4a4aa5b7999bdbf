-- What has a number, as the code looks it up.
use Rattle.std.proofs.Common.{◌≡◌, ℕ, zero, suc, ◌+◌, List, take, Option, Some, None, refl, ap, sym, ◌∙◌, arith, Bool}
use Rattle.std.specs.Prelude.{MatchOption, count_by}
use Rattle.std.specs.List.{slice_get}
use Rattle.dy_entry.specs.Entries.{Entry}
use Rattle.dy_entry.specs.LookUps.{IsNth, HasNoNth}
use Rattle.dy_traces.specs.Instances.{indices_from}
use Rattle.dy_plan.specs.Naming.{counted_from_one}
use Rattle.dy_plan.proofs.Nth.{nth_is, nth_from}

none_of : (o : Option ℕ) → ((x : ℕ) → o ≡ Some x → ⊥) → o ≡ None
none_of None none = refl
none_of (Some x) none = absurd (none x refl)

module _ (test : Entry → Bool) (T : List Entry) where
  nth_found : (number index : ℕ) → IsNth test T number index → counted_from_one (indices_from 0 test T) number ≡ Some index
  nth_found number index nth =
      let before = count_by test (take index T) in
      let is = nth.number_is in
      let same : number ≡ suc before = omega (arith, is) in
      let start : 0 + index ≡ index = omega arith in
      ap (counted_from_one (indices_from 0 test T)) same ∙ nth_is test 0 T index nth.entry nth.stands nth.passes ∙ ap Some start

  nth_missing : (number : ℕ) → HasNoNth test T number → counted_from_one (indices_from 0 test T) number ≡ None
  nth_missing zero none = refl
  nth_missing (suc k) none = none_of (slice_get (indices_from 0 test T) k) (λ index found.
      let at = nth_from test 0 T k index found in
      let is = at.index_is in
      let place : at.place ≡ index = omega (arith, is) in
      let counts = at.number in
      none at.place (record { entry = at.entry; stands = at.stands; passes = at.passes; number_is = omega (arith, counts) }))

  -- what a look-up by number answers
  pub nth_answer : (answer : Option ℕ) (number : ℕ) → MatchOption answer (HasNoNth test T number) (λ index. IsNth test T number index)
      → answer ≡ counted_from_one (indices_from 0 test T) number
  nth_answer None number none = sym (nth_missing number none)
  nth_answer (Some index) number nth = sym (nth_found number index nth)
