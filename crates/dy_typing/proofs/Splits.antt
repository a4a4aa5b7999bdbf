-- Places of a list.
use Rattle.std.proofs.Common.{◌≡◌, length, List, [], ◌∷◌, ◌++◌, ◌⊎◌, inl, inr, refl, ap, arith}
use Rattle.std.proofs.lemmas.List.{length-append}

-- Two places of a list are one, or one of them stands before the other.
pub two_places : {A : Type 0} (before : List A) (x : A) (after other_before : List A) (y : A) (other_after : List A) → before ++ x ∷ after ≡ other_before ++ y ∷ other_after
    → ((before ≡ other_before) × (x ≡ y)) ⊎ (((middle : List A) × (other_before ≡ before ++ x ∷ middle)) ⊎ ((middle : List A) × (before ≡ other_before ++ y ∷ middle)))
two_places [] x after [] y other_after same = inl (refl, cc)
two_places [] x after (c ∷ other_before) y other_after same = inr (inl (other_before, cc))
two_places (c ∷ before) x after [] y other_after same = inr (inr (before, cc))
two_places (c ∷ before) x after (d ∷ other_before) y other_after same =
    let heads : c ≡ d = cc in
    elim (two_places before x after other_before y other_after cc) [
      | inl one ↦ let prefixes = one.0 in inl (cc, one.1)
      | inr (inl first) ↦ let prefix = first.1 in inr (inl (first.0, cc))
      | inr (inr second) ↦ let prefix = second.1 in inr (inr (second.0, cc))
    ]

-- A place in a list with one more element is the last, or one of those before.
pub last_or_before : {A : Type 0} (prefix : List A) (x : A) (before : List A) (y : A) (after : List A) → prefix ++ x ∷ [] ≡ before ++ y ∷ after
    → (prefix ≡ before) ⊎ ((middle : List A) × (prefix ≡ before ++ y ∷ middle))
last_or_before prefix x before y after same =
    elim (two_places prefix x [] before y after same) [
      | inl one ↦ inl one.0
      | inr (inl longer) ↦ absurd (let lens = ap length same in let front_len = ap length longer.1 in omega (arith, simp length-append at lens, simp length-append at front_len))
      | inr (inr earlier) ↦ inr earlier
    ]
