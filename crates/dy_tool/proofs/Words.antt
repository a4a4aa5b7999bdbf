-- A list of one word.
use Rattle.std.proofs.Common.{◌≡◌, ℕ, ◌<◌, ◌≤◌, true, List, [], ◌∷◌, length, get_or, sym, ap, ◌∙◌, arith}
use Rattle.std.proofs.lemmas.Slice.Eq.{bytes_eq-Decides}
use Rattle.std.specs.Prelude.{map}
use Rattle.std.specs.Str.{bytes_eq}

-- a list of length 1 has one element, its first
pub one_element : {A : Type 0} (xs : List A) (x : A) → 1 ≤ length xs → length xs < 2 → x ≡ get_or xs 0 x → xs ≡ x ∷ []
one_element [] x least below x_is = absurd (omega arith)
one_element (y ∷ []) x least below x_is = ap (λ z. z ∷ []) (sym x_is)
one_element (y ∷ z ∷ xs) x least below x_is = absurd (omega arith)

-- a list of one word that is this one
pub one_word : {A : Type 0} (bytes : A → List ℕ) (xs : List A) (x : A) (word : List ℕ) → xs ≡ x ∷ [] → bytes_eq (bytes x) word ≡ true → map bytes xs ≡ word ∷ []
one_word bytes xs x word one same = ap (map bytes) one ∙ ap (λ w. w ∷ []) ((bytes_eq-Decides (bytes x) word).0 same)

-- and a list that is this one word
pub is_one_word : {A : Type 0} (bytes : A → List ℕ) (xs : List A) (x : A) (word : List ℕ) → xs ≡ x ∷ [] → map bytes xs ≡ word ∷ [] → bytes_eq (bytes x) word ≡ true
is_one_word bytes xs x word one same =
    let both : bytes x ∷ [] ≡ word ∷ [] = sym (ap (map bytes) one) ∙ same in
    let first : bytes x ≡ word = cc in
    (bytes_eq-Decides (bytes x) word).1 first
