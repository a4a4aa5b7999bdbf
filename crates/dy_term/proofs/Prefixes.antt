-- Prefixes of words, of texts and of numbers.
use Rattle.std.proofs.Common.{◌≡◌, ℕ, ◌≤◌, Bool, true, false, ◌&&◌, ◌==◌, List, [], ◌∷◌, ◌++◌, length, refl, sym, ap, ◌∙◌, inl, inr, arith}
use Rattle.std.specs.List.{list_all}
use Rattle.std.specs.Char.{is_ascii_alphabetic, is_ascii_digit}
use Rattle.std.proofs.lemmas.Bool.{cases_Bool, and_parts, and_from, leb-true, le-leb}
use Rattle.std.proofs.lemmas.Bool.Decides.{nat_tests}
use Rattle.std.proofs.lemmas.List.{length-append}
use Rattle.dy_term.specs.Characters.{is_word_byte, is_text_byte, is_long_word, is_long_text, is_word, is_text}

-- all of a list passes a test where all of its two parts do
pub list_all-parts : {X : Type 0} (test : X → Bool) (prefix more : List X) → list_all test (prefix ++ more) ≡ (list_all test prefix && list_all test more)
list_all-parts test [] more = refl
list_all-parts test (x ∷ prefix) more = elim (cases_Bool (test x)) [
  | inl passes ↦ rw passes (list_all-parts test prefix more)
  | inr fails ↦ rw fails refl
]

-- a prefix of a text is one
pub text_prefix : (prefix more : List ℕ) → is_text (prefix ++ more) ≡ true → is_text prefix ≡ true
text_prefix prefix more text =
    let parts = and_parts (is_long_text (prefix ++ more)) _ text in
    let passes : (list_all is_text_byte prefix && list_all is_text_byte more) ≡ true = sym (list_all-parts is_text_byte prefix more) ∙ parts.0 in
    let short : length (prefix ++ more) ≤ 32 = leb-true _ _ parts.1 in
    and_from (is_long_text prefix) _ (and_parts (list_all is_text_byte prefix) _ passes).0 (le-leb (length prefix) 32 (omega (arith, length-append prefix more)))

-- a prefix of a word is one
pub word_prefix : (b : ℕ) (prefix more : List ℕ) → is_word (b ∷ prefix ++ more) ≡ true → is_word (b ∷ prefix) ≡ true
word_prefix b prefix more word =
    let parts = and_parts (is_long_word (b ∷ prefix ++ more)) _ word in
    let letters = and_parts (is_ascii_alphabetic b) (list_all is_word_byte (prefix ++ more)) parts.0 in
    let passes : (list_all is_word_byte prefix && list_all is_word_byte more) ≡ true = sym (list_all-parts is_word_byte prefix more) ∙ letters.1 in
    let short : length (b ∷ prefix ++ more) ≤ 32 = leb-true _ _ parts.1 in
    and_from (is_long_word (b ∷ prefix)) _
    (and_from (is_ascii_alphabetic b) _ letters.0 (and_parts (list_all is_word_byte prefix) _ passes).0)
    (le-leb (length (b ∷ prefix)) 32 (omega (arith, length-append prefix more)))

-- no text has a quote in it
pub text_unquoted : (prefix : List ℕ) (b : ℕ) → is_text (prefix ++ b ∷ []) ≡ true → (b == 34) ≡ false
text_unquoted prefix b text =
    let passes : (list_all is_text_byte prefix && list_all is_text_byte (b ∷ [])) ≡ true = sym (list_all-parts is_text_byte prefix (b ∷ [])) ∙ (and_parts (is_long_text (prefix ++ b ∷ [])) _ text).0 in
    let byte : is_text_byte b ≡ true = (and_parts (is_text_byte b) _ (and_parts (list_all is_text_byte prefix) _ passes).1).0 in
    grind (arith, nat_tests)

-- a letter belongs to a word
pub no_word_byte : (b : ℕ) → is_word_byte b ≡ false → is_ascii_alphabetic b ≡ false
no_word_byte b none = grind (arith, nat_tests)

-- a digit belongs to a word
pub no_digit : (b : ℕ) → is_word_byte b ≡ false → is_ascii_digit b ≡ false
no_digit b none = grind (arith, nat_tests)

-- a word with another byte after it is none
pub word_ends : (word : List ℕ) (b : ℕ) → is_word_byte b ≡ false → is_word (word ++ b ∷ []) ≡ false
word_ends [] b none = rw (no_word_byte b none) refl
word_ends (c ∷ word) b none =
    let last : list_all is_word_byte (b ∷ []) ≡ false = rw none refl in
    let fails : list_all is_word_byte (word ++ b ∷ []) ≡ false = list_all-parts is_word_byte word (b ∷ []) ∙ ap (λ (t : Bool). list_all is_word_byte word && t) last ∙ and_none (list_all is_word_byte word) in
    rw fails (none_first (is_ascii_alphabetic c) _)
  where
    and_none : (a : Bool) → (a && false) ≡ false
    and_none true = refl
    and_none false = refl

    none_first : (a t : Bool) → ((a && false) && t) ≡ false
    none_first true t = refl
    none_first false t = refl
