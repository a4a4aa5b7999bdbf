-- What the code finds at the start is a token, as long as possible, and a token that stands there is found.
use Rattle.std.proofs.Common.{◌≡◌, ℕ, suc, ◌+◌, ◌<◌, ◌≤◌, true, false, not, ◌==◌, nat_lt, ◌&&◌, List, [], ◌∷◌, ◌++◌, length, get_or, slice_index, take, drop, Option, Some, None, refl, sym, ap, subst, ◌∙◌, inl, inr, arith}
use Rattle.std.specs.List.{list_all, prefix_len}
use Rattle.std.specs.Char.{is_ascii_alphabetic, is_ascii_digit}
use Rattle.std.proofs.lemmas.Bool.{cases_Bool, and_parts, and_from, cond-true, cond-false, cond_both, eqb-true, ltb-true, lt-ltb}
use Rattle.std.proofs.lemmas.Bool.Decides.{nat_tests}
use Rattle.std.proofs.lemmas.List.{length-take, length-append, append_assoc, take_at, take_more, get_or_at}
use Rattle.std.proofs.lemmas.List.Sums.{prefix_len-le-length}
use Rattle.dy_term.specs.Characters.{is_word_byte, is_text_byte, is_long_word, is_long_text, in_quotes}
use Rattle.dy_lex.specs.declared.tokens.TokenKind.{TokenKind}
use Rattle.dy_lex.specs.declared.tokens.TokenKind.TheVariants.{Word, Number, Text, Symbol}
use Rattle.dy_lex.specs.Symbols.{is_blank, is_number, is_mark, is_symbol, IsToken, runs_on}
use Rattle.dy_lex.specs.MirrorPrefixes.{number_prefix, text_prefix, arrow_prefix, token_prefix}
use Rattle.dy_lex.specs.Tokens.{IsNoToken}
use Rattle.dy_lex.proofs.Runs.{list_all-weaker, prefix_len-through, list_all-prefix, prefix_len-after}

-- a letter belongs to a word
letter_is_word_byte : (b : ℕ) → is_ascii_alphabetic b ≡ true → is_word_byte b ≡ true
letter_is_word_byte b letter = grind (arith, nat_tests)

-- a digit belongs to a word
digit_is_word_byte : (b : ℕ) → is_ascii_digit b ≡ true → is_word_byte b ≡ true
digit_is_word_byte b digit = grind (arith, nat_tests)

-- a digit is no letter
digit_is_no_letter : (b : ℕ) → is_ascii_digit b ≡ true → is_ascii_alphabetic b ≡ false
digit_is_no_letter b digit = grind (arith, nat_tests)

-- the byte is no letter, digit or quote
record BeginsOther (b : ℕ) : Type 0 where
  no_letter : is_ascii_alphabetic b ≡ false
  no_digit : is_ascii_digit b ≡ false
  no_quote : (b == 34) ≡ false

-- a symbol of one byte is no letter, digit or quote
mark_is_other : (b : ℕ) → is_mark b ≡ true → BeginsOther b
mark_is_other b mark = record {
  no_letter = grind (arith, nat_tests);
  no_digit = grind (arith, nat_tests);
  no_quote = grind (arith, nat_tests);
}

-- what follows a word or a number begins with no byte of one
stops-word : (rest : List ℕ) → runs_on Word rest ≡ false → prefix_len is_word_byte rest ≡ 0
stops-word [] stops = refl
stops-word (b ∷ more) stops = rw stops refl

-- where no byte of a word follows, neither a word nor a number runs on
word-stops : (rest : List ℕ) → prefix_len is_word_byte rest ≡ 0 → runs_on Word rest ≡ false
word-stops [] none = refl
word-stops (b ∷ more) none = elim (cases_Bool (is_word_byte b)) [
  | inl passes ↦ absurd (let more_than_none : 1 + prefix_len is_word_byte more ≡ 0 = rw passes at none in omega arith)
  | inr fails ↦ fails
]

-- a number runs on where a word does
number-runs_on : (rest : List ℕ) → runs_on Number rest ≡ runs_on Word rest
number-runs_on [] = refl
number-runs_on (b ∷ more) = refl

-- a text never runs on
text-stops : (rest : List ℕ) → runs_on Text rest ≡ false
text-stops [] = refl
text-stops (b ∷ more) = refl

-- a symbol never runs on
symbol-stops : (rest : List ℕ) → runs_on Symbol rest ≡ false
symbol-stops [] = refl
symbol-stops (b ∷ more) = refl

-- a word is made of bytes of words
word_passes : (text : List ℕ) → is_long_word text ≡ true → list_all is_word_byte text ≡ true
word_passes [] word = absurd cc
word_passes (b ∷ more) word =
    let parts = and_parts (is_ascii_alphabetic b) (list_all is_word_byte more) word in
    and_from (is_word_byte b) (list_all is_word_byte more) (letter_is_word_byte b parts.0) parts.1

-- a number is made of digits
number_is_digits : (text : List ℕ) → is_number text ≡ true → list_all is_ascii_digit text ≡ true
number_is_digits [] number = absurd cc
number_is_digits (b ∷ []) number = and_from (is_ascii_digit b) true number refl
number_is_digits (b ∷ c ∷ more) number =
    let parts = and_parts (is_ascii_digit b && not (b == 48)) _ number in
    and_from (is_ascii_digit b) (list_all is_ascii_digit (c ∷ more)) (and_parts (is_ascii_digit b) _ parts.0).0 (and_parts (list_all is_ascii_digit (c ∷ more)) _ parts.1).0

-- a number is made of bytes of words
number_passes : (text : List ℕ) → is_number text ≡ true → list_all is_word_byte text ≡ true
number_passes text number = list_all-weaker is_ascii_digit is_word_byte digit_is_word_byte text (number_is_digits text number)

-- ---- what is found is a token

-- the prefix is a token of this kind and length, as long as possible
pub record Takes (kind : TokenKind) (len : ℕ) (source : List ℕ) : Type 0 where
  pub some : 0 < len
  pub within : len ≤ length source
  pub is_token : IsToken kind (take len source)
  pub whole : runs_on kind (drop len source) ≡ false

-- a token that was found, if one was, is at the start
abbrev TakesFound : List ℕ → Option (TokenKind × ℕ) → Type 0
TakesFound source None = Unit {0}
TakesFound source (Some found) = Takes found.0 found.1 source

-- after a letter at the start, the word is a token
word_is_taken : (b : ℕ) (more : List ℕ) → is_ascii_alphabetic b ≡ true → Takes Word (prefix_len is_word_byte (b ∷ more)) (b ∷ more)
word_is_taken b more letter =
    let len = prefix_len is_word_byte more in
    let one_more : prefix_len is_word_byte (b ∷ more) ≡ suc len = rw (letter_is_word_byte b letter) (omega arith) in
    subst (λ (n : ℕ). Takes Word n (b ∷ more)) (sym one_more) (record {
      some = omega arith;
      within = omega (arith, prefix_len-le-length is_word_byte more);
      is_token = and_from (is_ascii_alphabetic b) _ letter (list_all-prefix is_word_byte more);
      whole = word-stops (drop len more) (prefix_len-after is_word_byte more);
    })

-- a number is not empty
number_is_some : (text : List ℕ) → is_number text ≡ true → 0 < length text
number_is_some [] number = absurd cc
number_is_some (b ∷ more) number = omega arith

-- a number that is found is a token
number_is_taken : (source : List ℕ) → TakesFound source (number_prefix source)
number_is_taken source =
    let len = prefix_len is_word_byte source in
    cond_both (is_number (take len source)) (Some (Number, len)) None (TakesFound source) (λ number. record {
      some = omega (arith, number_is_some (take len source) number, length-take len source);
      within = prefix_len-le-length is_word_byte source;
      is_token = number;
      whole = number-runs_on (drop len source) ∙ word-stops (drop len source) (prefix_len-after is_word_byte source);
    }) (λ none. tt)

-- a text that is found is a token
text_is_taken : (more : List ℕ) → TakesFound (34 ∷ more) (text_prefix more)
text_is_taken more =
    let len = prefix_len is_text_byte more in
    cond_both (nat_lt len (length more) && (slice_index more len == 34)) (Some (Text, 2 + len)) None (TakesFound (34 ∷ more)) (λ closed.
    let parts = and_parts (nat_lt len (length more)) (slice_index more len == 34) closed in
    let within : len < length more = ltb-true len (length more) parts.0 in
    let quote : get_or more len 0 ≡ 34 = eqb-true (slice_index more len) 34 parts.1 in
    let len_is : 2 + len ≡ suc (len + 1) = omega arith in
    record {
      some = omega arith;
      within = omega arith;
      is_token = (take len more, list_all-prefix is_text_byte more, rw (len_is, take_more more len 0 within, quote) refl);
      whole = text-stops _;
    }) (λ none. tt)

-- a symbol of one byte is a token
mark_is_taken : (b : ℕ) (more : List ℕ) → is_mark b ≡ true → Takes Symbol 1 (b ∷ more)
mark_is_taken b more mark = record { some = omega arith; within = omega arith; is_token = mark; whole = symbol-stops more }

-- an arrow that is found is a token
arrow_is_taken : (b : ℕ) (more : List ℕ) → (b == 45) ≡ true → TakesFound (b ∷ more) (arrow_prefix more)
arrow_is_taken b [] dash = tt
arrow_is_taken b (c ∷ more) dash = cond_both (c == 62) (Some (Symbol, 2)) None (TakesFound (b ∷ c ∷ more)) (λ tip. record {
  some = omega arith;
  within = omega arith;
  is_token = and_from (b == 45) (c == 62) dash tip;
  whole = symbol-stops more;
}) (λ none. tt)

-- whatever is found is a token
found_is_taken : (source : List ℕ) → TakesFound source (token_prefix source)
found_is_taken [] = tt
found_is_taken (b ∷ more) =
    let P = TakesFound (b ∷ more) in
    cond_both (is_ascii_alphabetic b) _ _ P (word_is_taken b more) (λ no_letter.
    cond_both (is_ascii_digit b) _ _ P (λ digit. number_is_taken (b ∷ more)) (λ no_digit.
    cond_both (b == 34) _ _ P (λ quote. rw (eqb-true b 34 quote) (text_is_taken more)) (λ no_quote.
    cond_both (is_mark b) _ _ P (mark_is_taken b more) (λ no_mark.
    cond_both (b == 45) _ _ P (arrow_is_taken b more) (λ no_dash. tt)))))

-- the token that is found is at the start
pub takes : (source : List ℕ) (kind : TokenKind) (len : ℕ) → token_prefix source ≡ Some (kind, len) → Takes kind len source
takes source kind len found = subst (TakesFound source) found (found_is_taken source)

-- ---- a token is found again

-- exactly these bytes of a word stand at the start
word_len_is : (text rest : List ℕ) → list_all is_word_byte text ≡ true → runs_on Word rest ≡ false → prefix_len is_word_byte (text ++ rest) ≡ length text
word_len_is text rest passes stops = omega (arith, prefix_len-through is_word_byte text rest passes, stops-word rest stops)

-- a word is found at the start
word_again : (text rest : List ℕ) → is_long_word text ≡ true → runs_on Word rest ≡ false → token_prefix (text ++ rest) ≡ Some (Word, length text)
word_again [] rest word stops = absurd cc
word_again (b ∷ more) rest word stops =
    let letter = (and_parts (is_ascii_alphabetic b) _ word).0 in
    cond-true _ _ _ letter ∙ ap (λ (n : ℕ). Some (Word, n)) (word_len_is (b ∷ more) rest (word_passes (b ∷ more) word) stops)

-- the code for numbers finds a number
number_found : (text rest : List ℕ) → is_number text ≡ true → runs_on Word rest ≡ false → number_prefix (text ++ rest) ≡ Some (Number, length text)
number_found text rest number stops = rw (word_len_is text rest (number_passes text number) stops, take_at text rest (length text) refl, number) refl

-- a number is found at the start
number_again : (text rest : List ℕ) → is_number text ≡ true → runs_on Word rest ≡ false → token_prefix (text ++ rest) ≡ Some (Number, length text)
number_again [] rest number stops = absurd cc
number_again (b ∷ more) rest number stops =
    let digit = (and_parts (is_ascii_digit b) (list_all is_ascii_digit more) (number_is_digits (b ∷ more) number)).0 in
    cond-false _ _ _ (digit_is_no_letter b digit) ∙ cond-true _ _ _ digit ∙ number_found (b ∷ more) rest number stops

-- a text is found at the start
text_again : (inner rest : List ℕ) → is_long_text inner ≡ true → token_prefix (in_quotes inner ++ rest) ≡ Some (Text, length (in_quotes inner))
text_again inner rest passes =
    let len : prefix_len is_text_byte (inner ++ 34 ∷ rest) ≡ length inner = omega (arith, prefix_len-through is_text_byte inner (34 ∷ rest) passes) in
    let within : nat_lt (length inner) (length (inner ++ 34 ∷ rest)) ≡ true = lt-ltb _ _ (omega (arith, length-append inner (34 ∷ rest))) in
    let total : 2 + length inner ≡ suc (length (inner ++ 34 ∷ [])) = omega (arith, length-append inner (34 ∷ [])) in
    rw (append_assoc inner (34 ∷ []) rest, len, within, get_or_at inner 34 rest 0 (length inner) refl, total) refl

-- a symbol is found at the start
symbol_again : (text rest : List ℕ) → is_symbol text ≡ true → token_prefix (text ++ rest) ≡ Some (Symbol, length text)
symbol_again [] rest symbol = absurd cc
symbol_again (b ∷ []) rest symbol =
    let other = mark_is_other b symbol in
    cond-false _ _ _ other.no_letter ∙ cond-false _ _ _ other.no_digit ∙ cond-false _ _ _ other.no_quote ∙ cond-true _ _ _ symbol
symbol_again (b ∷ c ∷ []) rest symbol =
    let parts = and_parts (b == 45) (c == 62) symbol in
    rw (eqb-true b 45 parts.0, eqb-true c 62 parts.1) refl
symbol_again (b ∷ c ∷ d ∷ more) rest symbol = absurd cc

-- a token that nothing belongs to after it is found, whole
pub again : (kind : TokenKind) (text rest : List ℕ) → IsToken kind text → runs_on kind rest ≡ false → token_prefix (text ++ rest) ≡ Some (kind, length text)
again Word text rest is_token stops = word_again text rest is_token stops
again Number text rest is_token stops = number_again text rest is_token (sym (number-runs_on rest) ∙ stops)
again Text text rest is_token stops = rw is_token.2 (text_again is_token.0 rest is_token.1)
again Symbol text rest is_token stops = symbol_again text rest is_token

-- ---- a token begins with no blank

-- a letter is no blank
letter_is_no_blank : (b : ℕ) → is_ascii_alphabetic b ≡ true → is_blank b ≡ false
letter_is_no_blank b letter = grind (arith, nat_tests)

-- a digit is no blank
digit_is_no_blank : (b : ℕ) → is_ascii_digit b ≡ true → is_blank b ≡ false
digit_is_no_blank b digit = grind (arith, nat_tests)

-- a symbol of one byte is no blank
mark_is_no_blank : (b : ℕ) → is_mark b ≡ true → is_blank b ≡ false
mark_is_no_blank b mark = grind (arith, nat_tests)

-- the first byte, which is no blank
pub record BeginsSolid (text : List ℕ) : Type 0 where
  pub first : ℕ
  pub more : List ℕ
  pub split : text ≡ first ∷ more
  pub not_blank : is_blank first ≡ false

-- a token has a first byte, and that is no blank
pub token_is_solid : (kind : TokenKind) (text : List ℕ) → IsToken kind text → BeginsSolid text
token_is_solid Word [] is_token = absurd cc
token_is_solid Word (b ∷ more) is_token = record { first = b; more = more; split = refl; not_blank = letter_is_no_blank b (and_parts (is_ascii_alphabetic b) _ is_token).0 }
token_is_solid Number [] is_token = absurd cc
token_is_solid Number (b ∷ more) is_token =
    let digit = (and_parts (is_ascii_digit b) (list_all is_ascii_digit more) (number_is_digits (b ∷ more) is_token)).0 in
    record { first = b; more = more; split = refl; not_blank = digit_is_no_blank b digit }
token_is_solid Text text is_token = record { first = 34; more = is_token.0 ++ 34 ∷ []; split = is_token.2; not_blank = refl }
token_is_solid Symbol [] is_token = absurd cc
token_is_solid Symbol (b ∷ []) is_token = record { first = b; more = []; split = refl; not_blank = mark_is_no_blank b is_token }
token_is_solid Symbol (b ∷ c ∷ []) is_token = record { first = b; more = c ∷ []; split = refl; not_blank = rw (eqb-true b 45 (and_parts (b == 45) (c == 62) is_token).0) refl }
token_is_solid Symbol (b ∷ c ∷ d ∷ more) is_token = absurd cc

-- where nothing is found, and no blank stands, no token begins
pub nothing_found : (first : ℕ) (more : List ℕ) → is_blank first ≡ false → token_prefix (first ∷ more) ≡ None → IsNoToken (first ∷ more)
nothing_found first more not_blank none = record {
  first = first;
  more = more;
  split = refl;
  not_blank = not_blank;
  no_token = λ kind text rest split is_token stops. let found = again kind text rest is_token stops in let same = ap token_prefix split in absurd cc;
}
