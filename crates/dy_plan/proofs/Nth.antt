-- Which of the entries that pass a test has a number.
use Rattle.std.proofs.Common.{◌≡◌, ℕ, zero, suc, ◌+◌, Bool, true, false, cond, List, [], ◌∷◌, take, Some, if◌then◌else◌, refl, ap, subst, ◌∙◌, arith}
use Rattle.std.specs.List.{slice_get, count_by}
use Rattle.std.proofs.lemmas.List.Sums.{sum_by-cons}
use Rattle.dy_entry.specs.Entries.{Entry}
use Rattle.dy_traces.specs.Instances.{indices_from}

module _ (test : Entry → Bool) where
  counted : (x : Entry) (xs : List Entry) → count_by test (x ∷ xs) ≡ cond (test x) 1 0 + count_by test xs
  counted x xs = sum_by-cons (λ y. cond (test y) 1 0) x xs

  -- the entry at an index that passes has the number of those before it
  pub nth_is : (n : ℕ) (T : List Entry) (i : ℕ) (e : Entry) → slice_get T i ≡ Some e → test e ≡ true → slice_get (indices_from n test T) (count_by test (take i T)) ≡ Some (n + i)
  nth_is n [] i e at passes = absurd cc
  nth_is n (x ∷ T) zero e at passes =
      let first : test x ≡ true = cc in
      let same : n ≡ n + 0 = omega arith in
      ap (λ (b : Bool). slice_get (if b then n ∷ indices_from (suc n) test T else indices_from (suc n) test T) 0) first ∙ ap Some same
  nth_is n (x ∷ T) (suc i) e at passes =
      let c = count_by test (take i T) in
      let more = indices_from (suc n) test T in
      let later : slice_get more c ≡ Some (suc n + i) = nth_is (suc n) T i e at passes in
      let sum : suc n + i ≡ n + suc i = omega arith in
      let one : 1 + c ≡ suc c = omega arith in
      let none : 0 + c ≡ c = omega arith in
      let by_first : (b : Bool) → slice_get (if b then n ∷ more else more) (cond b 1 0 + c) ≡ Some (n + suc i) = λ b. elim b as (λ b. slice_get (if b then n ∷ more else more) (cond b 1 0 + c) ≡ Some (n + suc i)) [
        | true ↦ ap (slice_get (n ∷ more)) one ∙ later ∙ ap Some sum
        | false ↦ ap (slice_get more) none ∙ later ∙ ap Some sum
      ] in
      ap (slice_get (if test x then n ∷ more else more)) (counted x (take i T)) ∙ by_first (test x)

  -- where an index has a number, the entry there passes, and so many before it
  pub record Passes (n : ℕ) (T : List Entry) (k index : ℕ) : Type 0 where
    pub place : ℕ
    pub entry : Entry
    pub index_is : index ≡ n + place
    pub stands : slice_get T place ≡ Some entry
    pub passes : test entry ≡ true
    pub number : count_by test (take place T) ≡ k

  later_by : (x : Entry) (T : List Entry) (n k index : ℕ) (before : ℕ) → cond (test x) 1 0 ≡ before → Passes (suc n) T k index → Passes n (x ∷ T) (before + k) index
  later_by x T n k index before counts later = record {
    place = suc later.place;
    entry = later.entry;
    index_is = let is = later.index_is in omega (arith, is);
    stands = later.stands;
    passes = later.passes;
    number = counted x (take later.place T) ∙ (let number = later.number in omega (arith, number, counts));
  }

  first_by : (x : Entry) (T : List Entry) (b : Bool) → test x ≡ b → (n : ℕ) → ((k index : ℕ) → slice_get (indices_from (suc n) test T) k ≡ Some index → Passes (suc n) T k index)
      → (k index : ℕ) → slice_get (if b then n ∷ indices_from (suc n) test T else indices_from (suc n) test T) k ≡ Some index → Passes n (x ∷ T) k index
  first_by x T true passes n later zero index at = record {
    place = 0;
    entry = x;
    index_is = let same : index ≡ n = cc in omega (arith, same);
    stands = refl;
    passes = passes;
    number = refl;
  }
  first_by x T true passes n later (suc k) index at =
      let one : 1 + k ≡ suc k = omega arith in
      subst (λ (m : ℕ). Passes n (x ∷ T) m index) one (later_by x T n k index 1 (ap (λ (b : Bool). cond b 1 0) passes) (later k index at))
  first_by x T false passes n later k index at =
      let none : 0 + k ≡ k = omega arith in
      subst (λ (m : ℕ). Passes n (x ∷ T) m index) none (later_by x T n k index 0 (ap (λ (b : Bool). cond b 1 0) passes) (later k index at))

  pub nth_from : (n : ℕ) (T : List Entry) (k index : ℕ) → slice_get (indices_from n test T) k ≡ Some index → Passes n T k index
  nth_from n [] k index at = absurd cc
  nth_from n (x ∷ T) k index at = first_by x T (test x) refl n (nth_from (suc n) T) k index at
