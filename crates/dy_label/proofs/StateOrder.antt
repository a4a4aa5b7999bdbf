-- The order in which states are looked up is total.
use Rattle.std.proofs.Common.{◌≡◌, ℕ, true, false, arith}
use Rattle.std.proofs.lemmas.Bool.Decides.{nat_tests}
use Rattle.dy_label.specs.StateOrder.{comes_before}

pub not_before_itself : (at : ℕ × ℕ) → comes_before at at ≡ false
not_before_itself (s, v) = grind (arith, nat_tests)

pub before_through : (a b c : ℕ × ℕ) → comes_before a b ≡ true → comes_before b c ≡ true → comes_before a c ≡ true
before_through (s, v) (t, w) (u, x) = grind (arith, nat_tests)

same_session : (s v t w : ℕ) → comes_before (s, v) (t, w) ≡ false → comes_before (t, w) (s, v) ≡ false → s ≡ t
same_session s v t w = grind (arith, nat_tests)

same_version : (s v t w : ℕ) → comes_before (s, v) (t, w) ≡ false → comes_before (t, w) (s, v) ≡ false → v ≡ w
same_version s v t w = grind (arith, nat_tests)

pub one_is_before : (a b : ℕ × ℕ) → comes_before a b ≡ false → comes_before b a ≡ false → a ≡ b
one_is_before (s, v) (t, w) h k =
    let session = same_session s v t w h k in
    let version = same_version s v t w h k in
    cc
