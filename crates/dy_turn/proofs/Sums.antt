-- Sums over what all seats know.
use Rattle.std.proofs.Common.{◌≡◌, ℕ, zero, suc, ◌+◌, ◌≤◌, List, [], ◌∷◌, ◌++◌, set, refl, ap, sym, arith}
use mathlib.Core.Option.{some, some-injective, some-ne-none}
use lib.ListN.{get_elem?}
use Rattle.std.specs.List.{sum_by}
use Rattle.std.proofs.lemmas.List.Sums.{sum_by-cons, sum_by-append}

module _ {V : Type 0} (f : V → ℕ) where
  -- the sum after a change of one
  pub sum_by-set_at : (vs : List V) (seat : ℕ) (v w : V) → get_elem? vs seat ≡ some v → sum_by f (set vs seat w) + f v ≡ sum_by f vs + f w
  sum_by-set_at [] seat v w at = absurd (some-ne-none v (sym at))
  sum_by-set_at (x ∷ xs) zero v w at = let is : f x ≡ f v = ap f (some-injective x v at) in omega (arith, sum_by-cons f w xs, sum_by-cons f x xs)
  sum_by-set_at (x ∷ xs) (suc seat) v w at = omega (arith, sum_by-cons f x (set xs seat w), sum_by-cons f x xs, sum_by-set_at xs seat v w at)

  -- a change that adds as much leaves it
  pub sum_by-set_same : (vs : List V) (seat : ℕ) (v w : V) → get_elem? vs seat ≡ some v → f v ≡ f w → sum_by f (set vs seat w) ≡ sum_by f vs
  sum_by-set_same vs seat v w at same = omega (arith, sum_by-set_at vs seat v w at)

  pub sum_by-more : (vs : List V) (v : V) → sum_by f (vs ++ v ∷ []) ≡ sum_by f vs + f v
  sum_by-more vs v = omega (arith, sum_by-append f vs (v ∷ []))

  -- one of them is no more than the sum
  pub one_of : (vs : List V) (seat : ℕ) (v : V) → get_elem? vs seat ≡ some v → f v ≤ sum_by f vs
  one_of [] seat v at = absurd (some-ne-none v (sym at))
  one_of (x ∷ xs) zero v at = let is : f x ≡ f v = ap f (some-injective x v at) in omega (arith, sum_by-cons f x xs)
  one_of (x ∷ xs) (suc seat) v at = omega (arith, sum_by-cons f x xs, one_of xs seat v at)

  -- nothing where nothing adds to it
  pub sum_by-none : (vs : List V) → ((seat : ℕ) (v : V) → get_elem? vs seat ≡ some v → f v ≡ 0) → sum_by f vs ≡ 0
  sum_by-none [] each = refl
  sum_by-none (x ∷ xs) each = omega (arith, sum_by-cons f x xs, each 0 x refl, sum_by-none xs (λ seat v at. each (suc seat) v at))

module _ {V : Type 0} (f g : V → ℕ) where
  -- where each adds no more to the one sum than to the other, it is no larger
  pub sum_by-below : (vs : List V) → ((seat : ℕ) (v : V) → get_elem? vs seat ≡ some v → f v ≤ g v) → sum_by f vs ≤ sum_by g vs
  sum_by-below [] each = omega arith
  sum_by-below (x ∷ xs) each = omega (arith, sum_by-cons f x xs, sum_by-cons g x xs, each 0 x refl, sum_by-below xs (λ seat v at. each (suc seat) v at))

  -- nothing where the other sum is nothing
  sum_by-nothing : (vs : List V) → ((seat : ℕ) (v : V) → get_elem? vs seat ≡ some v → g v ≡ 0 → f v ≡ 0) → sum_by g vs ≡ 0 → sum_by f vs ≡ 0
  sum_by-nothing vs each none = sum_by-none f vs (λ seat v at. each seat v at (omega (arith, one_of g vs seat v at)))

  -- where one of them is the whole of a sum, it is the whole of each sum that grows only where the first does
  pub sum_by-alone : (vs : List V) (seat : ℕ) (v : V) → get_elem? vs seat ≡ some v → ((j : ℕ) (u : V) → get_elem? vs j ≡ some u → g u ≡ 0 → f u ≡ 0) → sum_by g vs ≡ g v → sum_by f vs ≡ f v
  sum_by-alone [] seat v at each whole = absurd (some-ne-none v (sym at))
  sum_by-alone (x ∷ xs) zero v at each whole =
      let is : f x ≡ f v = ap f (some-injective x v at) in
      let is' : g x ≡ g v = ap g (some-injective x v at) in
      let rest : sum_by g xs ≡ 0 = omega (arith, sum_by-cons g x xs) in
      omega (arith, sum_by-cons f x xs, sum_by-nothing xs (λ j u at'. each (suc j) u at') rest)
  sum_by-alone (x ∷ xs) (suc seat) v at each whole =
      let more = one_of g xs seat v at in
      let here : g x ≡ 0 = omega (arith, sum_by-cons g x xs) in
      let rest : sum_by g xs ≡ g v = omega (arith, sum_by-cons g x xs) in
      omega (arith, sum_by-cons f x xs, each 0 x refl here, sum_by-alone xs seat v at (λ j u at'. each (suc j) u at') rest)
