-- Lists that stand one after the other, and searches in them.
use Rattle.std.proofs.Common.{◌≡◌, ℕ, zero, suc, ◌+◌, ◌-◌, ◌<◌, ◌≤◌, Bool, true, false, cond, List, [], ◌∷◌, ◌++◌, length, map, drop, get_or, Option, Some, None, refl, ap, sym, ◌∙◌, arith, length-append}
use Rattle.std.specs.Option.{option_map, option_or}
use Rattle.std.specs.List.{slice_get, position, position_from}
use Rattle.std.specs.Str.{bytes_eq}
use Rattle.std.proofs.lemmas.Iterator.Adapters.{position_from-zero}
use Rattle.std.proofs.lemmas.List.{length-map, drop_more}
use Rattle.std.proofs.lemmas.Option.{slice_get-map}
use Rattle.dy_entry.proofs.Traces.{position-map}
use Rattle.dy_syntax.specs.declared.plans.Round as code
use Rattle.dy_syntax.specs.declared.plans.Step as code_step
use Rattle.dy_syntax.specs.Plans.{Step}
use Rattle.dy_syntax.specs.Meaning.{round_of, step_of}
use Rattle.dy_plan.specs.Steps.{steps_of_rounds}

pub get-first : {A : Type 0} (xs ys : List A) (k : ℕ) (x : A) → slice_get xs k ≡ Some x → slice_get (xs ++ ys) k ≡ Some x
get-first [] ys k x at = absurd cc
get-first (z ∷ zs) ys zero x at = at
get-first (z ∷ zs) ys (suc k) x at = get-first zs ys k x at

pub get-second : {A : Type 0} (xs ys : List A) (k : ℕ) → length xs ≤ k → slice_get (xs ++ ys) k ≡ slice_get ys (k - length xs)
get-second [] ys k past = let same : k - 0 ≡ k = omega arith in ap (slice_get ys) (sym same)
get-second (z ∷ zs) ys zero past = absurd (omega (arith, past))
get-second (z ∷ zs) ys (suc k) past =
    let same : k - length zs ≡ suc k - suc (length zs) = omega arith in
    get-second zs ys k (omega (arith, past)) ∙ ap (slice_get ys) same

module _ {A : Type 0} (test : A → Bool) where
  from-sum : (i j : ℕ) (xs : List A) → position_from test (i + j) xs ≡ option_map (λ k. i + k) (position_from test j xs)
  from-sum i j [] = refl
  from-sum i j (x ∷ xs) =
      elim (test x) as (λ b. cond b (Some (i + j)) (position_from test (i + j + 1) xs) ≡ option_map (λ k. i + k) (cond b (Some j) (position_from test (j + 1) xs))) [
        | true ↦ refl
        | false ↦ let same : i + j + 1 ≡ i + (j + 1) = omega arith in ap (λ m. position_from test m xs) same ∙ from-sum i (j + 1) xs
      ]

  from-append : (i : ℕ) (xs ys : List A) → position_from test i (xs ++ ys) ≡ option_or (position_from test i xs) (position_from test (i + length xs) ys)
  from-append i [] ys = let same : i ≡ i + 0 = omega arith in ap (λ m. position_from test m ys) same
  from-append i (x ∷ xs) ys =
      elim (test x) as (λ b. cond b (Some i) (position_from test (i + 1) (xs ++ ys)) ≡ option_or (cond b (Some i) (position_from test (i + 1) xs)) (position_from test (i + suc (length xs)) ys)) [
        | true ↦ refl
        | false ↦
            let same : i + 1 + length xs ≡ i + suc (length xs) = omega arith in
            from-append (i + 1) xs ys ∙ ap (λ m. option_or (position_from test (i + 1) xs) (position_from test m ys)) same
      ]

  -- the first in two lists that stand one after the other
  pub position-append : (xs ys : List A) → position test (xs ++ ys) ≡ option_or (position test xs) (option_map (λ k. length xs + k) (position test ys))
  position-append xs ys =
      let same : 0 + length xs ≡ length xs + 0 = omega arith in
      position_from-zero test (xs ++ ys) ∙ from-append 0 xs ys
      ∙ ap (λ m. option_or (position_from test 0 xs) (position_from test m ys)) same
      ∙ ap (λ o. option_or (position_from test 0 xs) o) (from-sum (length xs) 0 ys)
      ∙ ap (λ o. option_or o (option_map (λ k. length xs + k) (position_from test 0 ys))) (sym (position_from-zero test xs))
      ∙ ap (λ o. option_or (position test xs) (option_map (λ k. length xs + k) o)) (sym (position_from-zero test ys))

-- the steps of the rounds from one on
abbrev pub steps_left : List code.Round → ℕ → List Step
steps_left rounds i = steps_of_rounds (map round_of (drop i rounds))

pub left_more : (rounds : List code.Round) (i : ℕ) (round : code.Round) → i < length rounds → round ≡ get_or rounds i round
    → steps_left rounds i ≡ map step_of round.steps ++ steps_left rounds (i + 1)
left_more rounds i round within is =
    ap (λ (xs : List code.Round). steps_of_rounds (map round_of xs)) (drop_more rounds i round within ∙ ap (λ (x : code.Round). x ∷ drop (i + 1) rounds) (sym is))

pub count_more : (rounds : List code.Round) (i : ℕ) (round : code.Round) (before all : ℕ) → i < length rounds → round ≡ get_or rounds i round
    → before + length (steps_left rounds i) ≡ all → before + length round.steps + length (steps_left rounds (i + 1)) ≡ all
count_more rounds i round before all within is sum =
    let split = ap length (left_more rounds i round within is) ∙ length-append (map step_of round.steps) (steps_left rounds (i + 1)) in
    let same = length-map round.steps step_of in
    omega (arith, sum, split, same)

pub nothing_before : (o : Option ℕ) → o ≡ option_map (λ k. 0 + k) o
nothing_before None = refl
nothing_before (Some k) = let same : k ≡ 0 + k = omega arith in ap Some same

sum_before : (before more : ℕ) (o : Option ℕ) → option_map (λ k. before + k) (option_map (λ k. more + k) o) ≡ option_map (λ k. before + more + k) o
sum_before before more None = refl
sum_before before more (Some k) = let same : before + (more + k) ≡ before + more + k = omega arith in ap Some same

module _ (rounds : List code.Round) (name : List ℕ) (i : ℕ) (round : code.Round) (within : i < length rounds) (is : round ≡ get_or rounds i round) where
  abbrev named : Step → Bool
  named step = bytes_eq step.name.word name

  first_in : (o : Option ℕ) → position (λ (step : code_step.Step). bytes_eq step.name.word name) round.steps ≡ o
      → position named (steps_left rounds i) ≡ option_or o (option_map (λ k. length round.steps + k) (position named (steps_left rounds (i + 1))))
  first_in o found =
      ap (position named) (left_more rounds i round within is) ∙ position-append named (map step_of round.steps) (steps_left rounds (i + 1))
      ∙ ap (λ p. option_or p (option_map (λ k. length (map step_of round.steps) + k) (position named (steps_left rounds (i + 1))))) (position-map step_of named round.steps ∙ found)
      ∙ ap (λ (n : ℕ). option_or o (option_map (λ k. n + k) (position named (steps_left rounds (i + 1))))) (length-map round.steps step_of)

  pub found_here : (all : Option ℕ) (before place : ℕ) → all ≡ option_map (λ k. before + k) (position named (steps_left rounds i))
      → position (λ (step : code_step.Step). bytes_eq step.name.word name) round.steps ≡ Some place → all ≡ Some (before + place)
  found_here all before place sum found = sum ∙ ap (option_map (λ k. before + k)) (first_in (Some place) found)

  pub found_later : (all : Option ℕ) (before : ℕ) → all ≡ option_map (λ k. before + k) (position named (steps_left rounds i))
      → position (λ (step : code_step.Step). bytes_eq step.name.word name) round.steps ≡ None
      → all ≡ option_map (λ k. before + length round.steps + k) (position named (steps_left rounds (i + 1)))
  found_later all before sum found =
      sum ∙ ap (option_map (λ k. before + k)) (first_in None found) ∙ sum_before before (length round.steps) (position named (steps_left rounds (i + 1)))

module _ (rounds : List code.Round) (i : ℕ) (round : code.Round) (within : i < length rounds) (is : round ≡ get_or rounds i round) where
  -- a step of this round, or of a later one
  pub got_here : (place : ℕ) (step : code_step.Step) → slice_get round.steps place ≡ Some step → slice_get (steps_left rounds i) place ≡ Some (step_of step)
  got_here place step at =
      ap (λ (xs : List Step). slice_get xs place) (left_more rounds i round within is)
      ∙ get-first (map step_of round.steps) (steps_left rounds (i + 1)) place (step_of step) (slice_get-map step_of round.steps place ∙ ap (option_map step_of) at)

  pub got_later : (place : ℕ) → length round.steps ≤ place → slice_get (steps_left rounds i) place ≡ slice_get (steps_left rounds (i + 1)) (place - length round.steps)
  got_later place past =
      let same = length-map round.steps step_of in
      ap (λ (xs : List Step). slice_get xs place) (left_more rounds i round within is)
      ∙ get-second (map step_of round.steps) (steps_left rounds (i + 1)) place (omega (arith, same, past))
      ∙ ap (λ (n : ℕ). slice_get (steps_left rounds (i + 1)) (place - n)) same

-- where nothing stands at an index, the list is no longer
pub past_end : {A : Type 0} (xs : List A) (k : ℕ) → slice_get xs k ≡ None → length xs ≤ k
past_end [] k none = omega arith
past_end (x ∷ xs) zero none = absurd cc
past_end (x ∷ xs) (suc k) none = omega (arith, past_end xs k none)
