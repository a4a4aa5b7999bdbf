-- The first index at which a test passes, and all indices at which it does, with one element more.
use Rattle.std.proofs.Common.{◌≡◌, ℕ, zero, suc, ◌+◌, Bool, true, false, List, [], ◌∷◌, ◌++◌, Option, Some, None, if◌then◌else◌, refl, ap, sym, ◌∙◌}
use Rattle.std.proofs.lemmas.Iterator.Adapters.{position_from-zero}
use Rattle.std.specs.List.{slice_get, position, position_from}
use Rattle.dy_entry.specs.Entries.{Entry}
use Rattle.dy_traces.specs.Instances.{indices_from}
use Rattle.dy_sound.proofs.Lists.{in_longer}

module _ {A : Type 0} (test : A → Bool) where
  split_none : (b : Bool) (i : ℕ) (rest : Option ℕ) → (if b then Some i else rest) ≡ None → (b ≡ false) × (rest ≡ None)
  split_none true i rest none = absurd cc
  split_none false i rest none = (refl, none)

  from_none : (i : ℕ) (xs : List A) → position_from test i xs ≡ None → (k : ℕ) (x : A) → slice_get xs k ≡ Some x → test x ≡ false
  from_none i [] none k x at = absurd cc
  from_none i (y ∷ ys) none zero x at = let first = (split_none (test y) i (position_from test (i + 1) ys) none).0 in cc
  from_none i (y ∷ ys) none (suc k) x at = from_none (i + 1) ys (split_none (test y) i (position_from test (i + 1) ys) none).1 k x at

  from_all : (i : ℕ) (xs : List A) → ((k : ℕ) (x : A) → slice_get xs k ≡ Some x → test x ≡ false) → position_from test i xs ≡ None
  from_all i [] fails = refl
  from_all i (y ∷ ys) fails = ap (λ (b : Bool). if b then Some i else position_from test (i + 1) ys) (fails 0 y refl) ∙ from_all (i + 1) ys (λ k x at. fails (suc k) x at)

  -- What is not found in a longer list is not found in the shorter one.
  pub none_in_shorter : (xs ys : List A) → position test (xs ++ ys) ≡ None → position test xs ≡ None
  none_in_shorter xs ys none = position_from-zero test xs ∙ from_all 0 xs (λ k x at. from_none 0 (xs ++ ys) (sym (position_from-zero test (xs ++ ys)) ∙ none) k x (in_longer xs ys k x at))

module _ (test : Entry → Bool) where
  skipped_if : (b : Bool) (n : ℕ) (first second : List ℕ) → first ≡ second → (if b then n ∷ first else first) ≡ (if b then n ∷ second else second)
  skipped_if b n first second same = ap (λ (rest : List ℕ). if b then n ∷ rest else rest) same

  -- An entry more that fails the test adds no index.
  pub no_index_more : (n : ℕ) (T : List Entry) (e : Entry) → test e ≡ false → indices_from n test (T ++ e ∷ []) ≡ indices_from n test T
  no_index_more n [] e fails = ap (λ (b : Bool). if b then n ∷ [] else []) fails
  no_index_more n (x ∷ T) e fails = skipped_if (test x) n (indices_from (suc n) test (T ++ e ∷ [])) (indices_from (suc n) test T) (no_index_more (suc n) T e fails)

  -- Where each entry fails the test, there is no index.
  pub no_index : (n : ℕ) (T : List Entry) → ((k : ℕ) (e : Entry) → slice_get T k ≡ Some e → test e ≡ false) → indices_from n test T ≡ []
  no_index n [] fails = refl
  no_index n (e ∷ T) fails =
      ap (λ (b : Bool). if b then n ∷ indices_from (suc n) test T else indices_from (suc n) test T) (fails 0 e refl)
      ∙ no_index (suc n) T (λ k x at. fails (suc k) x at)
