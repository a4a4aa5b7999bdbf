-- How many pass a test, where another test lets more pass.
use Rattle.std.proofs.Common.{◌≡◌, ◌∙◌, ap, ℕ, ◌+◌, ◌<◌, ◌≤◌, zero, suc, Bool, true, false, cond, Some, List, [], ◌∷◌, refl, inl, inr, arith}
use Rattle.std.specs.Prelude.{slice_get, count_by}
use Rattle.std.proofs.lemmas.Bool.{cases_Bool}
use Rattle.std.proofs.lemmas.List.Sums.{sum_by-cons}

yes_one : {A : Type 0} (p : A → Bool) (x : A) (xs : List A) → p x ≡ true → count_by p (x ∷ xs) ≡ 1 + count_by p xs
yes_one p x xs holds = sum_by-cons (λ y. cond (p y) 1 0) x xs ∙ ap (λ b. cond b 1 0 + count_by p xs) holds

no_one : {A : Type 0} (p : A → Bool) (x : A) (xs : List A) → p x ≡ false → count_by p (x ∷ xs) ≡ count_by p xs
no_one p x xs fails = sum_by-cons (λ y. cond (p y) 1 0) x xs ∙ ap (λ b. cond b 1 0 + count_by p xs) fails ∙ omega arith

pub no_more : {A : Type 0} (p q : A → Bool) (xs : List A) → ((i : ℕ) (x : A) → slice_get xs i ≡ Some x → p x ≡ true → q x ≡ true) → count_by p xs ≤ count_by q xs
no_more p q [] sub = omega arith
no_more p q (x ∷ xs) sub =
    let more = no_more p q xs (λ i y at. sub (suc i) y at) in
    elim (cases_Bool (p x)) [
      | inl holds ↦ let a = yes_one p x xs holds in let b = yes_one q x xs (sub 0 x refl holds) in omega (arith, more, a, b)
      | inr fails ↦ let a = no_one p x xs fails in elim (cases_Bool (q x)) [
        | inl holds ↦ let b = yes_one q x xs holds in omega (arith, more, a, b)
        | inr other ↦ let b = no_one q x xs other in omega (arith, more, a, b)
      ]
    ]

-- fewer pass where one that passed does not
pub fewer : {A : Type 0} (p q : A → Bool) (xs : List A) (i : ℕ) (x : A) → ((i : ℕ) (x : A) → slice_get xs i ≡ Some x → p x ≡ true → q x ≡ true)
    → slice_get xs i ≡ Some x → p x ≡ false → q x ≡ true → count_by p xs < count_by q xs
fewer p q [] i x sub at fails holds = absurd (grind arith)
fewer p q (z ∷ xs) zero x sub at fails holds =
    let e : z ≡ x = cc in
    let a = no_one p z xs (ap p e ∙ fails) in let b = yes_one q z xs (ap q e ∙ holds) in let more = no_more p q xs (λ i y there. sub (suc i) y there) in
    omega (arith, a, b, more)
fewer p q (z ∷ xs) (suc i) x sub at fails holds =
    let less = fewer p q xs i x (λ i y there. sub (suc i) y there) at fails holds in
    elim (cases_Bool (p z)) [
      | inl pass ↦ let a = yes_one p z xs pass in let b = yes_one q z xs (sub 0 z refl pass) in omega (arith, less, a, b)
      | inr fail ↦ let a = no_one p z xs fail in elim (cases_Bool (q z)) [
        | inl pass ↦ let b = yes_one q z xs pass in omega (arith, less, a, b)
        | inr other ↦ let b = no_one q z xs other in omega (arith, less, a, b)
      ]
    ]
