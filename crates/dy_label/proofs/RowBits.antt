-- The bits of a row's number, and those of the blocks that tables are made of.
use Rattle.std.proofs.Common.{◌≡◌, ℕ, ◌+◌, ◌-◌, ◌*◌, ◌/◌, ◌%◌, ◌^◌, ◌<◌, ◌≤◌, suc, zero, max, min, true, false, not, ◌&&◌, ◌||◌, ◌==◌, List, [], ◌∷◌, get_or, slice_index, refl, sym, ap, ◌∙◌, subst, arith, inl, inr, ◌⊎◌}
use Rattle.std.specs.Prelude.{bit_and, bit_or}
use Rattle.std.specs.Int.{bit_at, bit_not, w64, trailing_zeros}
use Rattle.std.proofs.lemmas.Nat.Bits.{bit_at_cat_low, bit_at_cat_high, bit_at_or, bit_at_and, bit_at_not, bit_at-lt, bit_at_ones, bit_at-zero, bit_at-trailing_zeros, shr_and_one}
use Rattle.std.proofs.lemmas.Nat.{and_le_l, or_lt}
use Rattle.std.proofs.Math.Pow.{pow-lt}
use Rattle.std.proofs.lemmas.Bool.{agree_below, agree_below_at, eq-eqb, ne_eqb, cases_Bool, and_parts}
use Rattle.dy_label.specs.Tables.{is_set, is_lawful, value_at, IsWithin}

-- the digits 0 and 1
digit_cases : (x : ℕ) → x < 2 → (x ≡ 0) ⊎ (x ≡ 1)
digit_cases x h = elim x as (λ n. n < 2 → (n ≡ 0) ⊎ (n ≡ 1)) [ zero ↦ λ g. inl refl | suc m ↦ λ g. inr (omega arith) ] h

digit_or : (x y : ℕ) → x < 2 → y < 2 → (max x y == 1) ≡ (x == 1 || y == 1)
digit_or x y h k = elim (digit_cases x h) [
  | inl p ↦ elim (digit_cases y k) [ inl q ↦ rw (p, q) | inr q ↦ rw (p, q) ]
  | inr p ↦ elim (digit_cases y k) [ inl q ↦ rw (p, q) | inr q ↦ rw (p, q) ]
]

digit_and : (x y : ℕ) → x < 2 → y < 2 → (min x y == 1) ≡ (x == 1 && y == 1)
digit_and x y h k = elim (digit_cases x h) [
  | inl p ↦ elim (digit_cases y k) [ inl q ↦ rw (p, q) | inr q ↦ rw (p, q) ]
  | inr p ↦ elim (digit_cases y k) [ inl q ↦ rw (p, q) | inr q ↦ rw (p, q) ]
]

digit_not : (x : ℕ) → x < 2 → (1 - x == 1) ≡ not (x == 1)
digit_not x h = elim (digit_cases x h) [ inl p ↦ rw p | inr p ↦ rw p ]

pub is_set-or : (a b bit : ℕ) → is_set (bit_or a b) bit ≡ (is_set a bit || is_set b bit)
is_set-or a b bit = rw (bit_at_or a b bit) (digit_or (bit_at a bit) (bit_at b bit) (bit_at-lt a bit) (bit_at-lt b bit))

pub is_set-and : (a b bit : ℕ) → is_set (bit_and a b) bit ≡ (is_set a bit && is_set b bit)
is_set-and a b bit = rw (bit_at_and a b bit) (digit_and (bit_at a bit) (bit_at b bit) (bit_at-lt a bit) (bit_at-lt b bit))

pub is_set-not : (a bit : ℕ) → a < 2 ^ 64 → bit < 64 → is_set (bit_not w64 a) bit ≡ not (is_set a bit)
is_set-not a bit h k = rw (bit_at_not w64 a bit h k) (digit_not (bit_at a bit) (bit_at-lt a bit))

pub is_set-full : (bit : ℕ) → bit < 64 → is_set 18446744073709551615 bit ≡ true
is_set-full bit h = ap (λ x. x == 1) (bit_at_ones 64 bit h)

pub is_set-zero : (bit : ℕ) → is_set 0 bit ≡ false
is_set-zero bit = ap (λ x. x == 1) (bit_at-zero bit)

pub is_set-shifted : (number bit : ℕ) → bit_and (number / 2 ^ bit) 1 ≡ 1 → is_set number bit ≡ true
is_set-shifted number bit h = eq-eqb (bit_at number bit) 1 (sym (shr_and_one number bit) ∙ h)

pub is_set-not_shifted : (number bit : ℕ) → (bit_and (number / 2 ^ bit) 1 ≡ 1 → ⊥) → is_set number bit ≡ false
is_set-not_shifted number bit h = ne_eqb (bit_at number bit) 1 (λ e. h (shr_and_one number bit ∙ e))

-- Say that no row of a block is lawful and set in the first and not in the second. Then each lawful row of the first
-- is set in the second.
pub block_within-zero : (first second lawful : ℕ) → second < 2 ^ 64 → bit_and (bit_and first (bit_not w64 second)) lawful ≡ 0
    → (place : ℕ) → place < 64 → is_set lawful place ≡ true → is_set first place ≡ true → is_set second place ≡ true
block_within-zero first second lawful fits h place k in_lawful in_first =
    let value = is_set-and (bit_and first (bit_not w64 second)) lawful place in
    let both = is_set-and first (bit_not w64 second) place in
    let other = is_set-not second place fits k in
    let none = is_set-zero place in
    let zero_block = ap (λ n. is_set n place) h in
    elim (cases_Bool (is_set second place)) [ inl yes_there ↦ yes_there | inr not_there ↦ cc ]

-- Where there is such a row, not each lawful row of the first is set in the second.
pub block_within-nonzero : (first second lawful : ℕ) → first < 2 ^ 64 → second < 2 ^ 64 → (bit_and (bit_and first (bit_not w64 second)) lawful ≡ 0 → ⊥)
    → ((place : ℕ) → place < 64 → is_set lawful place ≡ true → is_set first place ≡ true → is_set second place ≡ true) → ⊥
block_within-nonzero first second lawful fits_first fits_second h within =
    let block = bit_and (bit_and first (bit_not w64 second)) lawful in
    let place = trailing_zeros w64 block in
    let bounded : block < 2 ^ 64 = omega (arith, and_le_l (bit_and first (bit_not w64 second)) lawful, and_le_l first (bit_not w64 second)) in
    let low = bit_at-trailing_zeros w64 block (omega arith) bounded in
    let set_there = eq-eqb (bit_at block place) 1 low.1 in
    let value = is_set-and (bit_and first (bit_not w64 second)) lawful place in
    let all = and_parts (is_set (bit_and first (bit_not w64 second)) place) (is_set lawful place) (sym value ∙ set_there) in
    let both = and_parts (is_set first place) (is_set (bit_not w64 second) place) (sym (is_set-and first (bit_not w64 second) place) ∙ all.0) in
    let there = within place low.0 all.1 both.0 in
    let other = is_set-not second place fits_second low.0 in
    cc

-- The low bits of a row's number are those of its place in its block.
pub is_set-place : (block place bit : ℕ) → bit < 6 → is_set (block * 64 + place) bit ≡ is_set place bit
is_set-place block place bit h = ap (λ x. x == 1) (bit_at_cat_low block 6 place bit h)

-- The other bits are those of the block's number.
pub is_set-block : (block place bit : ℕ) → place < 64 → 6 ≤ bit → is_set (block * 64 + place) bit ≡ is_set block (bit - 6)
is_set-block block place bit h k = ap (λ x. x == 1) (bit_at_cat_high block 6 place bit h k)

-- of the 64 rows of a block, those in which each of the six low bits is set
abbrev pub low_blocks : List ℕ
low_blocks = 0xaaaa_aaaa_aaaa_aaaa ∷ 0xcccc_cccc_cccc_cccc ∷ 0xf0f0_f0f0_f0f0_f0f0 ∷ 0xff00_ff00_ff00_ff00 ∷ 0xffff_0000_ffff_0000 ∷ 0xffff_ffff_0000_0000 ∷ []

low_agrees : (bit : ℕ) → bit < 6 → agree_below (λ place. is_set (get_or low_blocks bit 0) place) (λ place. is_set place bit) 64 ≡ true
low_agrees bit h = agree_below_at (λ b. agree_below (λ place. is_set (get_or low_blocks b 0) place) (λ place. is_set place b) 64) (λ b. true) 6 bit refl h

pub is_set-low : (block place bit : ℕ) → bit < 6 → place < 64 → is_set (get_or low_blocks bit 0) place ≡ is_set (block * 64 + place) bit
is_set-low block place bit h k = agree_below_at (λ p. is_set (get_or low_blocks bit 0) p) (λ p. is_set p bit) 64 place (low_agrees bit h) k ∙ sym (is_set-place block place bit h)

-- the lawful rows of a block, by the three high bits
abbrev pub lawful_blocks : List ℕ
lawful_blocks = 0xffff_ffff_ffff_ffff ∷ 0xaaaa_aaaa_aaaa_aaaa ∷ 0 ∷ 0xaaaa_aaaa_aaaa_aaaa ∷ 0 ∷ 0xaaaa_aaaa_aaaa_aaaa ∷ 0 ∷ 0xaaaa_aaaa_aaaa_aaaa ∷ []

pub is_set-lawful : (row : ℕ) → row < 4096 → is_set (get_or lawful_blocks (row / 64 / 8) 0) (row % 64) ≡ is_lawful row
is_set-lawful row h = agree_below_at (λ r. is_set (get_or lawful_blocks (r / 64 / 8) 0) (r % 64)) is_lawful 4096 row refl h

-- ---- tables, block by block

place_in : (block place : ℕ) → place < 64 → ((block * 64 + place) / 64 ≡ block) × ((block * 64 + place) % 64 ≡ place)
place_in block place h = (omega arith, omega arith)

value_at-place : (table : List ℕ) (block place : ℕ) → place < 64 → value_at table (block * 64 + place) ≡ is_set (slice_index table block) place
value_at-place table block place h = let at = place_in block place h in rw (at.0, at.1)

-- Each lawful row of this block that is set in the first table is set in the second.
abbrev pub IsBlockWithin : List ℕ → List ℕ → ℕ → Type 0
IsBlockWithin first second block = (place : ℕ) → place < 64 → is_set (slice_index lawful_blocks (block / 8)) place ≡ true
    → is_set (slice_index first block) place ≡ true → is_set (slice_index second block) place ≡ true

pub block_within-rows : (first second : List ℕ) (block : ℕ) → block < 64 → IsWithin first second → IsBlockWithin first second block
block_within-rows first second block h within = λ place k lawful in_first.
    let at = place_in block place k in
    let row = block * 64 + place in
    let is_row_lawful = is_set-lawful row (omega arith) in
    sym (value_at-place second block place k)
    ∙ within row (omega arith) (sym is_row_lawful ∙ rw (at.0, at.1) lawful) (value_at-place first block place k ∙ in_first)

pub row_within : (first second : List ℕ) (block row : ℕ) → row / 64 ≡ block → row < 4096 → IsBlockWithin first second block
    → is_lawful row ≡ true → value_at first row ≡ true → value_at second row ≡ true
row_within first second block row e h within lawful in_first =
    let P : ℕ → Type 0 = λ w. IsBlockWithin first second w in
    subst P (sym e) within (row % 64) (omega arith) (is_set-lawful row h ∙ lawful) in_first

-- A bit more makes a row of a row.
pub with_bit-lt : (row bit : ℕ) → row < 4096 → bit < 12 → bit_or row (2 ^ bit) < 4096
with_bit-lt row bit h k = or_lt 12 row (2 ^ bit) h (pow-lt k)
