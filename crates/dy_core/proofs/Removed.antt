-- The instances that are kept without one of them.
use Rattle.std.proofs.Common.{◌≡◌, ℕ, zero, suc, List, [], ◌∷◌, Some, refl, ap, arith}
use Rattle.std.specs.List.{slice_get, slice_index_or, remove}
use Rattle.dy_core.specs.declared.running.Running.{Running}
use Rattle.dy_core.specs.MirrorBooks.{HasEachOnce}

-- the index before the removal of what has an index after it
abbrev pub index_before : ℕ → ℕ → ℕ
index_before zero k = suc k
index_before (suc i) zero = zero
index_before (suc i) (suc k) = suc (index_before i k)

pub stood_before : {A : Type 0} (xs : List A) (i k : ℕ) (x : A) → slice_get (remove xs i) k ≡ Some x → slice_get xs (index_before i k) ≡ Some x
stood_before [] zero k x at = absurd cc
stood_before [] (suc i) k x at = absurd cc
stood_before (y ∷ ys) zero k x at = at
stood_before (y ∷ ys) (suc i) zero x at = at
stood_before (y ∷ ys) (suc i) (suc k) x at = stood_before ys i k x at

other_index : (i k : ℕ) → index_before i k ≡ i → ⊥
other_index zero k same = omega (arith, same)
other_index (suc i) zero same = omega (arith, same)
other_index (suc i) (suc k) same = other_index i k (omega (arith, same))

same_index : (i j k : ℕ) → index_before i j ≡ index_before i k → j ≡ k
same_index zero j k same = omega (arith, same)
same_index (suc i) zero zero same = refl
same_index (suc i) zero (suc k) same = absurd (omega (arith, same))
same_index (suc i) (suc j) zero same = absurd (omega (arith, same))
same_index (suc i) (suc j) (suc k) same = ap suc (same_index i j k (omega (arith, same)))

pub stands_still : {A : Type 0} (xs : List A) (i k : ℕ) (x : A) → (k ≡ i → ⊥) → slice_get xs k ≡ Some x → (m : ℕ) × (slice_get (remove xs i) m ≡ Some x)
stands_still [] i k x other at = absurd cc
stands_still (y ∷ ys) zero zero x other at = absurd (other refl)
stands_still (y ∷ ys) zero (suc k) x other at = (k, at)
stands_still (y ∷ ys) (suc i) zero x other at = (zero, at)
stands_still (y ∷ ys) (suc i) (suc k) x other at = let rest = stands_still ys i k x (λ same. other (ap suc same)) at in (suc rest.0, rest.1)

pub read_at : {A : Type 0} (xs : List A) (i : ℕ) (x d : A) → slice_get xs i ≡ Some x → slice_index_or xs i d ≡ x
read_at [] i x d at = absurd cc
read_at (y ∷ ys) zero x d at = cc
read_at (y ∷ ys) (suc i) x d at = read_at ys i x d at

module _ (running : List Running) (i : ℕ) (once : HasEachOnce running) where
  pub once_removed : HasEachOnce (remove running i)
  once_removed j k r s at more same =
      same_index i j k (once (index_before i j) (index_before i k) r s (stood_before running i j r at) (stood_before running i k s more) same)

  pub others_left : (old : Running) → slice_get running i ≡ Some old → (k : ℕ) (x : Running) → slice_get (remove running i) k ≡ Some x → x.start ≡ old.start → ⊥
  others_left old is k x at same = other_index i k (once (index_before i k) i x old (stood_before running i k x at) is same)
