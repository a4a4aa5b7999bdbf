-- The bytes at the start that pass a test.
use Rattle.std.proofs.Common.{◌≡◌, ◌+◌, Bool, true, List, [], ◌∷◌, ◌++◌, length, take, drop, refl, sym, inl, inr, zero-add, one-add, arith}
use Rattle.std.specs.List.{list_all, prefix_len}
use Rattle.std.proofs.lemmas.Bool.{cases_Bool, and_parts, and_from}

-- all that passes a test passes a weaker one
pub list_all-weaker : {X : Type 0} (test weaker : X → Bool) → ((x : X) → test x ≡ true → weaker x ≡ true) → (xs : List X) → list_all test xs ≡ true → list_all weaker xs ≡ true
list_all-weaker test weaker gives [] passes = refl
list_all-weaker test weaker gives (x ∷ xs) passes =
    let parts = and_parts (test x) (list_all test xs) passes in
    and_from (weaker x) (list_all weaker xs) (gives x parts.0) (list_all-weaker test weaker gives xs parts.1)

-- the longest prefix goes through elements that all pass
pub prefix_len-through : {X : Type 0} (test : X → Bool) (prefix rest : List X) → list_all test prefix ≡ true → prefix_len test (prefix ++ rest) ≡ length prefix + prefix_len test rest
prefix_len-through test [] rest passes = sym (zero-add _)
prefix_len-through test (x ∷ prefix) rest passes =
    let parts = and_parts (test x) (list_all test prefix) passes in
    rw (parts.0, prefix_len-through test prefix rest parts.1) (omega arith)

-- the longest prefix passes whole
pub list_all-prefix : {X : Type 0} (test : X → Bool) (xs : List X) → list_all test (take (prefix_len test xs) xs) ≡ true
list_all-prefix test [] = refl
list_all-prefix test (x ∷ xs) = elim (cases_Bool (test x)) [
  | inl passes ↦ rw (passes, one-add, passes) (list_all-prefix test xs)
  | inr fails ↦ rw fails refl
]

-- after the longest prefix no element passes
pub prefix_len-after : {X : Type 0} (test : X → Bool) (xs : List X) → prefix_len test (drop (prefix_len test xs) xs) ≡ 0
prefix_len-after test [] = refl
prefix_len-after test (x ∷ xs) = elim (cases_Bool (test x)) [
  | inl passes ↦ rw (passes, one-add) (prefix_len-after test xs)
  | inr fails ↦ rw (fails, fails) refl
]
