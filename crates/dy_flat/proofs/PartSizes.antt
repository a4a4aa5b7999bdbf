-- A part is smaller than the whole.
use Rattle.std.proofs.Common.{◌≡◌, ℕ, zero, suc, ◌<◌, Some, ap, arith}
use Rattle.std.specs.Prelude.{slice_get}
use Rattle.dy_term.specs.Terms.{Term, Lit, Name, Nonce, Pair, Pk, Vk, Penc, Aead, Sign, Mac, Kdf, Hash, size}
use Rattle.dy_flat.specs.Parts.{parts_of}

pub part_smaller : (term part : Term) (number : ℕ) → slice_get (parts_of term) number ≡ Some part → size part < size term
part_smaller (Lit text) part number at = absurd (cc)
part_smaller (Name principal) part number at = absurd (cc)
part_smaller (Nonce index) part number at = absurd (cc)
part_smaller (Pair a b) part zero at = let is : a ≡ part = cc in omega (arith, ap size is)
part_smaller (Pair a b) part (suc zero) at = let is : b ≡ part = cc in omega (arith, ap size is)
part_smaller (Pair a b) part (suc (suc n)) at = absurd (cc)
part_smaller (Pk a) part zero at = let is : a ≡ part = cc in omega (arith, ap size is)
part_smaller (Pk a) part (suc n) at = absurd (cc)
part_smaller (Vk a) part zero at = let is : a ≡ part = cc in omega (arith, ap size is)
part_smaller (Vk a) part (suc n) at = absurd (cc)
part_smaller (Penc a b) part zero at = let is : a ≡ part = cc in omega (arith, ap size is)
part_smaller (Penc a b) part (suc zero) at = let is : b ≡ part = cc in omega (arith, ap size is)
part_smaller (Penc a b) part (suc (suc n)) at = absurd (cc)
part_smaller (Aead a b c) part zero at = let is : a ≡ part = cc in omega (arith, ap size is)
part_smaller (Aead a b c) part (suc zero) at = let is : b ≡ part = cc in omega (arith, ap size is)
part_smaller (Aead a b c) part (suc (suc zero)) at = let is : c ≡ part = cc in omega (arith, ap size is)
part_smaller (Aead a b c) part (suc (suc (suc n))) at = absurd (cc)
part_smaller (Sign a b) part zero at = let is : a ≡ part = cc in omega (arith, ap size is)
part_smaller (Sign a b) part (suc zero) at = let is : b ≡ part = cc in omega (arith, ap size is)
part_smaller (Sign a b) part (suc (suc n)) at = absurd (cc)
part_smaller (Mac a b) part zero at = let is : a ≡ part = cc in omega (arith, ap size is)
part_smaller (Mac a b) part (suc zero) at = let is : b ≡ part = cc in omega (arith, ap size is)
part_smaller (Mac a b) part (suc (suc n)) at = absurd (cc)
part_smaller (Kdf a c b) part zero at = let is : a ≡ part = cc in omega (arith, ap size is)
part_smaller (Kdf a c b) part (suc zero) at = let is : b ≡ part = cc in omega (arith, ap size is)
part_smaller (Kdf a c b) part (suc (suc n)) at = absurd (cc)
part_smaller (Hash a) part zero at = let is : a ≡ part = cc in omega (arith, ap size is)
part_smaller (Hash a) part (suc n) at = absurd (cc)
