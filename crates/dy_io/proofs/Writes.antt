-- Going on after what was written so far.
use Rattle.std.proofs.Common.{◌≡◌, ◌≢◌, ℕ, zero, suc, ◌+◌, ◌-◌, List, ◌++◌, length, take, drop, Option, Bool, false, ◌&&◌, eqb, refl, sym, ap, subst, ◌∙◌, arith}
use Rattle.std.proofs.lemmas.List.{take_all, length-drop}
use Rattle.std.proofs.Math.Dec.{eqb-suc-zero}
use Rattle.std.proofs.Math.Seq.{take-add}
use Rattle.std.proofs.KnownBytes.{Appends-trans}
use Rattle.std.specs.Io.KnownBytes.{Appends}

-- what the code has as `&bytes[done..]`
rest_is : (done : ℕ) (bytes : List ℕ) → take (length bytes - done) (drop done bytes) ≡ drop done bytes
rest_is done bytes = take_all (length bytes - done) (drop done bytes) (omega (arith, length-drop done bytes))

pub length-rest : (done : ℕ) (bytes : List ℕ) → length (take (length bytes - done) (drop done bytes)) ≡ length bytes - done
length-rest done bytes = ap length (rest_is done bytes) ∙ length-drop done bytes

-- the bytes so far were added, and then n of the rest
pub Appends-more : (a b c : Option (List ℕ)) (bytes : List ℕ) (done n : ℕ) → Appends a b (take done bytes) → Appends b c (take n (take (length bytes - done) (drop done bytes))) → Appends a c (take (done + n) bytes)
Appends-more a b c bytes done n first second =
    let piece : take done bytes ++ take n (take (length bytes - done) (drop done bytes)) ≡ take (done + n) bytes = ap (λ rest. take done bytes ++ take n rest) (rest_is done bytes) ∙ sym (take-add done n bytes) in
    subst (Appends a c) piece (Appends-trans a b c _ _ first second)

-- a write that took some bytes went well
pub took_some : (n : ℕ) (rest : Bool) → n ≢ 0 → eqb n 0 && rest ≡ false
took_some zero rest some = absurd (some refl)
took_some (suc n) rest some = rw (eqb-suc-zero n) refl
