-- Numbers of nodes that end at 1,025.
use Rattle.std.proofs.Common.{◌≡◌, ℕ, ◌+◌, ◌<◌, ◌≤◌, nat_le, min, refl, inl, inr, arith}
use Rattle.std.proofs.lemmas.Bool.{cases_Bool, leb-true, leb-false, le-leb}

same_side : (a b : ℕ) → (b ≤ 1024 → a ≤ 1024) → (1024 < b → 1024 < a) → nat_le a 1024 ≡ nat_le b 1024
same_side a b below above = elim (cases_Bool (nat_le b 1024)) [
  | inl few ↦ rw few (le-leb a 1024 (below (leb-true b 1024 few)))
  | inr many ↦ elim (cases_Bool (nat_le a 1024)) [
    | inl small ↦ let one = above (leb-false b 1024 many) in let two = leb-true a 1024 small in absurd (omega (arith, one, two))
    | inr large ↦ rw (many, large) refl
  ]
]

pub small_one : (a x : ℕ) → a ≡ min x 1025 → nat_le (1 + a) 1024 ≡ nat_le (1 + x) 1024
small_one a x is = same_side (1 + a) (1 + x) (λ h. omega (arith, is, h)) (λ h. omega (arith, is, h))

pub small_two : (a b x y : ℕ) → a ≡ min x 1025 → b ≡ min y 1025 → nat_le (1 + a + b) 1024 ≡ nat_le (1 + x + y) 1024
small_two a b x y one two = same_side (1 + a + b) (1 + x + y) (λ h. omega (arith, one, two, h)) (λ h. omega (arith, one, two, h))

pub small_three : (a b c x y z : ℕ) → a ≡ min x 1025 → b ≡ min y 1025 → c ≡ min z 1025 → nat_le (1 + a + b + c) 1024 ≡ nat_le (1 + x + y + z) 1024
small_three a b c x y z one two three = same_side (1 + a + b + c) (1 + x + y + z) (λ h. omega (arith, one, two, three, h)) (λ h. omega (arith, one, two, three, h))

pub small_whole : (a x : ℕ) → a ≡ min x 1025 → nat_le a 1024 ≡ nat_le x 1024
small_whole a x is = same_side a x (λ h. omega (arith, is, h)) (λ h. omega (arith, is, h))
