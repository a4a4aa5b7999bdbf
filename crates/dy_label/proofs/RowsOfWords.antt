-- Rows and the words that are open in them.
use Rattle.std.proofs.Common.{◌≡◌, ℕ, ◌+◌, ◌-◌, ◌*◌, ◌^◌, ◌<◌, zero, suc, Bool, true, false, ◌==◌, cond, refl, ap, ◌∙◌, arith, inl, inr}
use Rattle.std.proofs.Math.Nat.{pow-suc}
use Rattle.std.specs.Int.{bit_at}
use Rattle.std.proofs.lemmas.Nat.Bits.{bit_at_cat_low, bit_at_cat_high}
use Rattle.std.proofs.lemmas.Bool.{ltb-true, ne_eqb, cases_eq}
use Rattle.dy_label.specs.Words.{Atom, Name, ThisSession, Next, Prior, is_below}
use Rattle.dy_label.specs.Tables.{is_set, bit_of, opens_in, is_lawful}
use Rattle.dy_label.proofs.WordsLaw.{keeps_law}

abbrev digit : Bool → ℕ
digit true = 1
digit false = 0

digit-below : (b : Bool) (power rest : ℕ) → rest < power → digit b * power + rest < power * 2
digit-below true power rest h = omega arith
digit-below false power rest h = omega arith

digit-test : (b : Bool) → (bit_at (digit b) 0 == 1) ≡ b
digit-test true = refl
digit-test false = refl

-- the number of which those bits are set, below a number of bits, that pass the test
abbrev number_of : (ℕ → Bool) → ℕ → ℕ
number_of test zero = 0
number_of test (suc bits) = digit (test bits) * 2 ^ bits + number_of test bits

number_of-lt : (test : ℕ → Bool) (bits : ℕ) → number_of test bits < 2 ^ bits
number_of-lt test zero = omega arith
number_of-lt test (suc bits) = rw (pow-suc 2 bits) (digit-below (test bits) (2 ^ bits) (number_of test bits) (number_of-lt test bits))

number_of-bit : (test : ℕ → Bool) (bits bit : ℕ) → bit < bits → is_set (number_of test bits) bit ≡ test bit
number_of-bit test zero bit h = absurd (omega arith)
number_of-bit test (suc bits) bit h = elim (cases_eq bit bits) [
  | inl same ↦
      let high = bit_at_cat_high (digit (test bits)) bits (number_of test bits) bit (number_of-lt test bits) (omega arith) in
      let low : bit - bits ≡ 0 = omega arith in
      let value = digit-test (test bits) in
      let at_bit = ap test same in
      cc
  | inr other ↦
      ap (λ n. n == 1) (bit_at_cat_low (digit (test bits)) bits (number_of test bits) bit (omega arith))
      ∙ number_of-bit test bits bit (omega arith)
]

-- the word that a bit of a row's number speaks of
abbrev word_of : ℕ → Atom
word_of bit = cond (bit == 9) ThisSession (cond (bit == 10) Prior (cond (bit == 11) Next (Name bit)))

word_of-bit_of : (atom : Atom) → is_below 9 atom ≡ true → word_of (bit_of atom) ≡ atom
word_of-bit_of (Name number) h =
    let below = ltb-true number 9 h in
    let session = ne_eqb number 9 (λ e. omega arith) in
    let prior = ne_eqb number 10 (λ e. omega arith) in
    let next = ne_eqb number 11 (λ e. omega arith) in
    rw (session, prior, next)
word_of-bit_of ThisSession h = refl
word_of-bit_of Next h = refl
word_of-bit_of Prior h = refl

bit_of-lt : (atom : Atom) → is_below 9 atom ≡ true → bit_of atom < 12
bit_of-lt (Name number) h = let below = ltb-true number 9 h in omega arith
bit_of-lt ThisSession h = omega arith
bit_of-lt Next h = omega arith
bit_of-lt Prior h = omega arith

-- the row in which just those words are open
pub row_of : (Atom → Bool) → ℕ
row_of reads = number_of (λ bit. reads (word_of bit)) 12

pub row_of-lt : (reads : Atom → Bool) → row_of reads < 4096
unfolding row_of
row_of-lt reads = number_of-lt (λ bit. reads (word_of bit)) 12

pub opens_in-row_of : (reads : Atom → Bool) (atom : Atom) → is_below 9 atom ≡ true → opens_in (row_of reads) atom ≡ reads atom
unfolding row_of
opens_in-row_of reads atom h =
    number_of-bit (λ bit. reads (word_of bit)) 12 (bit_of atom) (bit_of-lt atom h) ∙ ap reads (word_of-bit_of atom h)

pub is_lawful-row_of : (reads : Atom → Bool) → is_lawful (row_of reads) ≡ keeps_law reads
is_lawful-row_of reads =
    let own = opens_in-row_of reads (Name 0) refl in
    let session = opens_in-row_of reads ThisSession refl in
    let prior = opens_in-row_of reads Prior refl in
    let next = opens_in-row_of reads Next refl in
    cc
