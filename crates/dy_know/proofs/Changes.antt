-- What is kept of nonces, where it is set for one of them.
use Rattle.std.proofs.Common.{◌≡◌, ℕ, zero, suc, ◌<◌, List, [], ◌∷◌, length, set, Option, Some, refl, ap, subst, arith}
use Rattle.std.specs.List.{slice_get}
use Rattle.std.proofs.lemmas.List.{length-set}
use Rattle.dy_entry.specs.Entries.{Entry}
use Rattle.dy_know.specs.declared.secrets.Secret.{Secret}
use Rattle.dy_know.specs.MirrorAuditors.{ExplainsSecret, ExplainsAt}

stands_set : {A : Type 0} (xs : List A) (i : ℕ) (x : A) → i < length xs → slice_get (set xs i x) i ≡ Some x
stands_set [] i x within = absurd (omega (arith, within))
stands_set (y ∷ xs) zero x within = refl
stands_set (y ∷ xs) (suc i) x within = stands_set xs i x (omega (arith, within))

stands_other : {A : Type 0} (xs : List A) (i k : ℕ) (x : A) → (k ≡ i → ⊥) → slice_get (set xs i x) k ≡ slice_get xs k
stands_other [] i k x apart = refl
stands_other (y ∷ xs) zero zero x apart = absurd (apart refl)
stands_other (y ∷ xs) zero (suc k) x apart = refl
stands_other (y ∷ xs) (suc i) zero x apart = refl
stands_other (y ∷ xs) (suc i) (suc k) x apart = stands_other xs i k x (λ same. apart (ap suc same))

-- what is kept of a nonce is set to the same with its recipe
pub explains_set : (T : List Entry) (secrets : List (Option Secret)) (nonce : ℕ) (secret old : Option Secret) → nonce < length secrets
    → slice_get secrets nonce ≡ Some old → ExplainsSecret T nonce old secret → ExplainsAt T nonce secrets (set secrets nonce secret)
explains_set T secrets nonce secret old within stands is = record {
  at = λ found at.
      let same : old ≡ found = cc (stands, at) in
      (secret, stands_set secrets nonce secret within, subst (λ (s : Option Secret). ExplainsSecret T nonce s secret) same is);
  others = λ k apart. stands_other secrets nonce k secret apart;
  one_each = length-set secrets nonce secret;
}
