-- The first MAX_LENGTH bytes of words and texts.
use Rattle.std.proofs.Common.{◌≡◌, ℕ, zero, suc, Bool, true, List, [], ◌∷◌, take, refl, arith}
use Rattle.std.specs.List.{list_all}
use Rattle.std.specs.Char.{is_ascii_alphabetic}
use Rattle.std.proofs.lemmas.Bool.{and_parts, and_from, le-leb}
use Rattle.std.proofs.lemmas.List.{length-take}
use Rattle.dy_term.specs.declared.limits.TheConstants.{MAX_LENGTH}
use Rattle.dy_term.specs.Characters.{is_word_byte, is_long_word, is_word, is_text_byte, is_long_text, is_text}

list_all-take : (p : ℕ → Bool) (n : ℕ) (xs : List ℕ) → list_all p xs ≡ true → list_all p (take n xs) ≡ true
list_all-take p zero xs all = refl
list_all-take p (suc n) [] all = refl
list_all-take p (suc n) (x ∷ xs) all =
    let parts = and_parts (p x) (list_all p xs) all in
    and_from _ _ parts.0 (list_all-take p n xs parts.1)

-- the start of a word is a word
pub is_word-take : (word : List ℕ) → is_long_word word ≡ true → is_word (take MAX_LENGTH word) ≡ true
is_word-take [] long = long
is_word-take (b ∷ more) long =
    let parts = and_parts (is_ascii_alphabetic b) (list_all is_word_byte more) long in
    and_from _ _ (and_from _ _ parts.0 (list_all-take is_word_byte 31 more parts.1)) (le-leb _ _ (omega (arith, length-take MAX_LENGTH (b ∷ more))))

-- the start of a text is a text
pub is_text-take : (text : List ℕ) → is_long_text text ≡ true → is_text (take MAX_LENGTH text) ≡ true
is_text-take text long = and_from _ _ (list_all-take is_text_byte MAX_LENGTH text long) (le-leb _ _ (omega (arith, length-take MAX_LENGTH text)))
