-- From which entry on a nonce is known, in a trace that grows.
use Rattle.std.proofs.Common.{◌≡◌, ℕ, suc, ◌-◌, ◌<◌, ◌≤◌, List, ◌++◌, length, take, drop, Contains, inl, inr, ap, sym, ◌∙◌, subst, arith, length-append}
use Rattle.std.proofs.lemmas.Bool.{cases_order}
use Rattle.std.proofs.lemmas.List.{take-append-le, take_all}
use Rattle.std.proofs.Math.Seq.{take-add}
use Rattle.dy_term.specs.Terms.{Term, Nonce}
use Rattle.dy_entry.specs.Entries.{Entry}
use Rattle.dy_entry.specs.Attacker.{Derives}
use Rattle.dy_entry.proofs.Derivations.{derives_still}
use Rattle.dy_know.specs.Knowing.{IsKnownFrom, through}
use Rattle.dy_know.specs.MirrorAuditors.{AllKnown}

pub through_longer : (T more : List Entry) (from : ℕ) → from < length T → through (T ++ more) from ≡ through T from
through_longer T more from within = take-append-le (suc from) T more (omega (arith, within))

pub through_last : (T : List Entry) (last : ℕ) → suc last ≡ length T → through T last ≡ T
through_last T last is = take_all (suc last) T (omega (arith, is))

-- longer prefixes derive no less
pub derives_onward : (T : List Entry) (n m : ℕ) (value : Term) → n ≤ m → Derives (take n T) value → Derives (take m T) value
derives_onward T n m value within derived =
    let split : take m T ≡ take n T ++ take (m - n) (drop n T) = ap (λ k. take k T) (omega (arith, within)) ∙ take-add n (m - n) T in
    subst (λ (X : List Entry). Derives X value) (sym split) (derives_still (take n T) (take (m - n) (drop n T)) value derived)

pub derived_in_all : (T : List Entry) (n : ℕ) (value : Term) → Derives (take n T) value → n ≤ length T → Derives T value
derived_in_all T n value derived within =
    subst (λ (X : List Entry). Derives X value) (take_all (length T) T (omega arith)) (derives_onward T n (length T) value within derived)

pub known_is_derived : (T : List Entry) (nonce from : ℕ) → IsKnownFrom T nonce from → Derives T (Nonce nonce)
known_is_derived T nonce from known = derived_in_all T (suc from) (Nonce nonce) known.derived (omega (arith, known.within))

-- what is known stays known from the same entry on
pub known_still : (T more : List Entry) (nonce from : ℕ) → IsKnownFrom T nonce from → IsKnownFrom (T ++ more) nonce from
known_still T more nonce from known = record {
  within = omega (arith, known.within, length-append T more);
  derived = subst (λ (X : List Entry). Derives X (Nonce nonce)) (sym (through_longer T more from known.within)) known.derived;
  least = λ earlier less derived. known.least earlier less
      (subst (λ (X : List Entry). Derives X (Nonce nonce)) (through_longer T more earlier (omega (arith, less, known.within))) derived);
}

-- it is known from one entry on
pub known_once : (T : List Entry) (nonce a b : ℕ) → IsKnownFrom T nonce a → IsKnownFrom T nonce b → a ≡ b
known_once T nonce a b first second = elim (cases_order a b) [
  | inl same ↦ same
  | inr other ↦ elim other [
    | inl less ↦ absurd (second.least a less first.derived)
    | inr more ↦ absurd (first.least b more second.derived)
  ]
]

-- what was not known before the last entry is known from it on
pub known_now : (T : List Entry) (last nonce : ℕ) (known : List ℕ) → suc last ≡ length T → AllKnown known (take last T)
    → (Contains known nonce → ⊥) → Derives T (Nonce nonce) → IsKnownFrom T nonce last
known_now T last nonce known is before new derived = record {
  within = omega (arith, is);
  derived = subst (λ (X : List Entry). Derives X (Nonce nonce)) (sym (through_last T last is)) derived;
  least = λ earlier less sooner. new (before nonce (derives_onward T (suc earlier) last (Nonce nonce) (omega (arith, less)) sooner));
}
