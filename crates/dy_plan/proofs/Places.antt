-- Each place of a round falls to one worker, once.
use Rattle.std.proofs.Common.{◌≡◌, ℕ, zero, suc, ◌<◌, ◌%◌, Bool, true, false, ◌==◌, List, [], ◌∷◌, ◌++◌, length, Some, if◌then◌else◌, ◌⊎◌, inl, inr, refl, ap, sym, ◌∙◌, arith}
use Rattle.std.specs.List.{slice_get}
use Rattle.dy_plan.specs.Dealing.{places_of_worker, IsShare}

in_last : {A : Type 0} (xs : List A) (x : A) → slice_get (xs ++ x ∷ []) (length xs) ≡ Some x
in_last [] x = refl
in_last (y ∷ ys) x = in_last ys x

in_longer : {A : Type 0} (xs ys : List A) (k : ℕ) (x : A) → slice_get xs k ≡ Some x → slice_get (xs ++ ys) k ≡ Some x
in_longer [] ys k x at = absurd cc
in_longer (z ∷ zs) ys zero x at = at
in_longer (z ∷ zs) ys (suc k) x at = in_longer zs ys k x at

in_more : {A : Type 0} (xs : List A) (y : A) (k : ℕ) (x : A) → slice_get (xs ++ y ∷ []) k ≡ Some x → (slice_get xs k ≡ Some x) ⊎ ((k ≡ length xs) × (x ≡ y))
in_more [] y zero x at = inr (refl, cc)
in_more [] y (suc k) x at = absurd cc
in_more (z ∷ zs) y zero x at = inl at
in_more (z ∷ zs) y (suc k) x at = elim (in_more zs y k x at) [
  | inl old ↦ inl old
  | inr last ↦ inr (ap suc last.0, last.1)
]

below_length : {A : Type 0} (xs : List A) (k : ℕ) (x : A) → slice_get xs k ≡ Some x → k < length xs
below_length [] k x at = absurd cc
below_length (y ∷ ys) zero x at = omega arith
below_length (y ∷ ys) (suc k) x at = let rest = below_length ys k x at in omega (arith, rest)

same_from : (a b : ℕ) → (a == b) ≡ true → a ≡ b
same_from a b is = search (arith, is)

other_from : (a b : ℕ) → (a == b) ≡ false → a ≡ b → ⊥
other_from a b is same = grind (arith, is, same)

order : (x place : ℕ) → x < suc place → (x < place) ⊎ (x ≡ place)
order zero zero below = inr refl
order zero (suc place) below = inl (omega arith)
order (suc x) zero below = absurd (omega (arith, below))
order (suc x) (suc place) below = elim (order x place (omega (arith, below))) [
  | inl less ↦ inl (omega (arith, less))
  | inr same ↦ inr (ap suc same)
]

share_more : (workers worker place : ℕ) (places : List ℕ) → IsShare workers worker place places → (b : Bool) → (place % workers == worker) ≡ b
    → IsShare workers worker (suc place) (if b then places ++ place ∷ [] else places)
share_more workers worker place places share true is =
    let of_place : place % workers ≡ worker = same_from (place % workers) worker is in
    record {
      of_worker = λ k x at. elim (in_more places place k x at) [
        | inl old ↦ let stands = share.of_worker k x old in (let below = stands.0 in omega (arith, below), stands.1)
        | inr last ↦ (let same = last.1 in omega (arith, same), ap (λ m. m % workers) last.1 ∙ of_place)
      ];
      each = λ x below leaves. elim (order x place below) [
        | inl less ↦ let old = share.each x less leaves in (old.0, in_longer places (place ∷ []) old.0 x old.1)
        | inr same ↦ (length places, in_last places place ∙ ap Some (sym same))
      ];
      rising = λ j k a b before first second. elim (in_more places place k b second) [
        | inl old ↦ share.rising j k a b before (early j k a b before old first) old
        | inr last ↦ elim (in_more places place j a first) [
          | inl old ↦ let below = (share.of_worker j a old).0 in let same = last.1 in omega (arith, below, same)
          | inr again ↦ let x = last.0 in let y = again.0 in absurd (omega (arith, before, x, y))
        ]
      ];
    }
  where
    early : (j k a b : ℕ) → j < k → slice_get places k ≡ Some b → slice_get (places ++ place ∷ []) j ≡ Some a → slice_get places j ≡ Some a
    early j k a b before at first = elim (in_more places place j a first) [
      | inl old ↦ old
      | inr last ↦ let below = below_length places k b at in let x = last.0 in absurd (omega (arith, before, below, x))
    ]
share_more workers worker place places share false is =
    record {
      of_worker = λ k x at. let stands = share.of_worker k x at in (let below = stands.0 in omega (arith, below), stands.1);
      each = λ x below leaves. elim (order x place below) [
        | inl less ↦ share.each x less leaves
        | inr same ↦ absurd (other_from (place % workers) worker is (ap (λ m. m % workers) (sym same) ∙ leaves))
      ];
      rising = share.rising;
    }

pub is_share : (workers worker count : ℕ) → IsShare workers worker count (places_of_worker workers worker count)
is_share workers worker zero = record {
  of_worker = λ k place at. absurd cc;
  each = λ place below leaves. absurd (omega (arith, below));
  rising = λ j k first second before at later. absurd cc;
}
is_share workers worker (suc place) =
    share_more workers worker place (places_of_worker workers worker place) (is_share workers worker place) (place % workers == worker) refl
