-- One byte more is a prefix of the text of a term, so far as there is a next state.
use Rattle.std.proofs.Common.{◌≡◌, ℕ, ◌+◌, ◌-◌, ◌*◌, ◌/◌, ◌%◌, ◌<◌, true, ◌==◌, nat_lt, List, [], ◌∷◌, ◌++◌, codes, Option, Some, None, option_map, refl, sym, ap, subst, ◌∙◌, arith}
use Rattle.std.specs.Str.{bytes_eq}
use Rattle.std.specs.Char.{is_ascii_digit}
use Rattle.std.specs.Fmt.{decimal}
use Rattle.std.proofs.lemmas.Bool.{and_parts, cond_both, eqb-true, ltb-true, lt-ltb}
use Rattle.std.proofs.lemmas.Bool.Decides.{nat_tests}
use Rattle.std.proofs.lemmas.List.{append_assoc, append-nil}
use Rattle.std.proofs.lemmas.Fmt.{decimal_digit, decimal_step}
use Rattle.std.proofs.lemmas.Slice.Eq.{bytes_eq-Decides}
use Rattle.dy_term.specs.Characters.{is_word, is_text}
use Rattle.dy_term.specs.Terms.{Term, Lit, Name, Nonce}
use Rattle.dy_term.specs.TermText.{term_text}
use Rattle.dy_term.specs.TermReading.{is_made}
use Rattle.dy_term.specs.MirrorSteps.{State, Begun, One, First, Second, AeadKey, AeadMessage, AeadData, KdfKey, KdfInput, Part, Reading, Due, Constructor, Chars, At, Letters, Sharp, Digits, After, CommaDue, SpaceDue, ContextSpaceDue, ContextDue, ContextChars, state, step_from, begun_by, begins_name, after_part, comma_after, whole_of, at_bracket, next_letter, leave_leaf, where_is, goes_on, part_within}
use Rattle.dy_term.proofs.Written.{Opening, OpeningMaybe, Wrote, WroteAfter, WroteKey, WrotePart, WroteReading, WroteState, WroteMaybe, longer, Closes, closes_one, closes_two, closes_aead, closes_kdf}

-- after a part, a bracket: the constructor is a part of the one around it
closed : (begun : List Begun) (out o prefix : List ℕ) (part : Term) → Wrote begun out → prefix ≡ (out ++ o) ++ term_text part → Closes o part (codes ")") → WrotePart begun (prefix ++ 41 ∷ [])
closed begun out o prefix part wrote split closes = record {
  part = closes.whole;
  made = closes.made;
  after = record { before = out; wrote = wrote; split = rw (split, ← closes.spelled) (simp append_assoc refl) };
}

-- after a part, a comma: this much of the constructor is after
opened : (maker : Begun) (begun : List Begun) (out o prefix : List ℕ) (part : Term) → Wrote begun out → prefix ≡ (out ++ o) ++ term_text part
    → Opening maker (o ++ (term_text part ++ codes ", ")) → Wrote (maker ∷ begun) ((prefix ++ 44 ∷ []) ++ codes " ")
opened maker begun out o prefix part wrote split opening = (out, o ++ (term_text part ++ codes ", "), wrote, opening, rw split (simp append_assoc refl))

-- a part that stands after a constructor that was begun
module _ (begun : List Begun) (out o prefix : List ℕ) (part : Term) (kept_part : Part) (nodes : ℕ) (wrote : Wrote begun out) (is : is_made part ≡ true) (split : prefix ≡ (out ++ o) ++ term_text part) where
  -- a comma after it
  wrote_comma : (maker : Begun) → Opening maker o → WroteMaybe (comma_after kept_part maker begun nodes) (prefix ++ 44 ∷ [])
  wrote_comma (One maker) opening = tt
  wrote_comma (First maker) opening = opened (Second maker kept_part) begun out o prefix part wrote split (part, is, rw opening refl)
  wrote_comma (Second maker first) opening = tt
  wrote_comma AeadKey opening = opened (AeadMessage kept_part) begun out o prefix part wrote split (part, is, rw opening refl)
  wrote_comma (AeadMessage key) opening = opened (AeadData key kept_part) begun out o prefix part wrote split (opening.0, part, opening.1, is, rw opening.2 (simp append_assoc refl))
  wrote_comma (AeadData key message) opening = tt
  wrote_comma KdfKey opening = record { key = part; made = is; after = record { before = out; wrote = wrote; split = rw (split, opening) (simp append_assoc refl) } }
  wrote_comma (KdfInput key context) opening = tt

  -- a bracket after it
  wrote_bracket : (maker : Begun) → Opening maker o → WroteMaybe (option_map (λ whole. state (After whole) begun nodes) (whole_of maker kept_part)) (prefix ++ 41 ∷ [])
  wrote_bracket (One maker) opening = closed begun out o prefix part wrote split (rw opening (closes_one maker part is))
  wrote_bracket (First maker) opening = tt
  wrote_bracket (Second maker first) opening = closed begun out o prefix part wrote split (rw opening.2 (closes_two maker opening.0 part opening.1 is))
  wrote_bracket AeadKey opening = tt
  wrote_bracket (AeadMessage key) opening = tt
  wrote_bracket (AeadData key message) opening = closed begun out o prefix part wrote split (rw opening.4 (closes_aead opening.0 opening.1 part opening.2 opening.3 is))
  wrote_bracket KdfKey opening = tt
  wrote_bracket (KdfInput key context) opening = closed begun out o prefix part wrote split (rw opening.3 (closes_kdf opening.0 context part opening.1 opening.2 is))

-- a byte after a part
wrote_after : (begun : List Begun) (prefix : List ℕ) (part : Part) (b nodes : ℕ) → WrotePart begun prefix → WroteMaybe (after_part part b begun nodes) (prefix ++ b ∷ [])
wrote_after [] prefix part b nodes wrote = tt
wrote_after (maker ∷ begun) prefix part b nodes wrote =
    let P = λ (o : Option State). WroteMaybe o (prefix ++ b ∷ []) in
    let before = wrote.after.wrote in
    let split : prefix ≡ (before.0 ++ before.1) ++ term_text wrote.part = rw (wrote.after.split, before.4) refl in
    cond_both (b == 44) _ _ P (λ comma. rw (eqb-true b 44 comma) (wrote_comma begun before.0 before.1 prefix wrote.part part nodes before.2 wrote.made split maker before.3)) (λ other.
    cond_both (b == 41) _ _ P (λ bracket. rw (eqb-true b 41 bracket) (wrote_bracket begun before.0 before.1 prefix wrote.part part nodes before.2 wrote.made split maker before.3)) (λ neither. tt))

-- the name of a constructor, and its bracket
opening_of : (name : List ℕ) → OpeningMaybe (begun_by name) (name ++ 40 ∷ [])
opening_of name =
    let P = λ (o : Option Begun). OpeningMaybe o (name ++ 40 ∷ []) in
    let is : (wanted : List ℕ) → bytes_eq name wanted ≡ true → name ≡ wanted = λ wanted same. (bytes_eq-Decides name wanted).0 same in
    cond_both (bytes_eq name (codes "pair")) _ _ P (λ same. rw (is (codes "pair") same) refl) (λ other.
    cond_both (bytes_eq name (codes "pk")) _ _ P (λ same. rw (is (codes "pk") same) refl) (λ other.
    cond_both (bytes_eq name (codes "vk")) _ _ P (λ same. rw (is (codes "vk") same) refl) (λ other.
    cond_both (bytes_eq name (codes "penc")) _ _ P (λ same. rw (is (codes "penc") same) refl) (λ other.
    cond_both (bytes_eq name (codes "aead")) _ _ P (λ same. rw (is (codes "aead") same) refl) (λ other.
    cond_both (bytes_eq name (codes "sign")) _ _ P (λ same. rw (is (codes "sign") same) refl) (λ other.
    cond_both (bytes_eq name (codes "mac")) _ _ P (λ same. rw (is (codes "mac") same) refl) (λ other.
    cond_both (bytes_eq name (codes "kdf")) _ _ P (λ same. rw (is (codes "kdf") same) refl) (λ other.
    cond_both (bytes_eq name (codes "hash")) _ _ P (λ same. rw (is (codes "hash") same) refl) (λ other.
    tt)))))))))

-- a bracket after a name
wrote_prefix : (begun : List Begun) (prefix letters : List ℕ) (nodes : ℕ) (found : Option Begun) → OpeningMaybe found (letters ++ 40 ∷ []) → WroteAfter begun letters prefix
    → WroteMaybe (at_bracket found begun nodes) (prefix ++ 40 ∷ [])
wrote_prefix begun prefix letters nodes None opening wrote = tt
wrote_prefix begun prefix letters nodes (Some maker) opening wrote = (wrote.before, letters ++ 40 ∷ [], wrote.wrote, opening, rw (wrote.split, append_assoc) refl)

-- one more letter of a name
wrote_letter : (begun : List Begun) (prefix letters : List ℕ) (b nodes : ℕ) → WroteAfter begun letters prefix → WroteMaybe (next_letter letters b begun nodes) (prefix ++ b ∷ [])
wrote_letter begun prefix letters b nodes wrote =
    let P = λ (o : Option State). WroteMaybe o (prefix ++ b ∷ []) in
    cond_both (is_word (letters ++ b ∷ [])) _ _ P (λ word.
    cond_both (begins_name (letters ++ b ∷ [])) _ _ P (λ begins. (begins, longer begun letters prefix b wrote)) (λ other. tt)) (λ other. tt)

-- nothing stands after the constructors that are begun
bare : (begun : List Begun) (prefix : List ℕ) → Wrote begun prefix → WroteAfter begun [] prefix
bare begun prefix wrote = record { before = prefix; wrote = wrote; split = sym (append-nil prefix) }

module _ (limit : ℕ) where
  -- a byte where a term is due
  wrote_due : (begun : List Begun) (prefix : List ℕ) (b nodes : ℕ) → Wrote begun prefix → WroteMaybe (step_from limit Due b begun nodes) (prefix ++ b ∷ [])
  wrote_due begun prefix b nodes wrote =
      let P = λ (o : Option State). WroteMaybe o (prefix ++ b ∷ []) in
      let as_byte : (c : ℕ) → b ≡ c → WroteAfter begun (c ∷ []) (prefix ++ b ∷ []) = λ c same. subst (λ (n : ℕ). WroteAfter begun (n ∷ []) (prefix ++ b ∷ [])) same (longer begun [] prefix b (bare begun prefix wrote)) in
      cond_both (b == 34) _ _ P (λ quote. (refl, as_byte 34 (eqb-true b 34 quote))) (λ other.
      cond_both (b == 64) _ _ P (λ sign. as_byte 64 (eqb-true b 64 sign)) (λ other.
      cond_both (b == 35) _ _ P (λ sharp. as_byte 35 (eqb-true b 35 sharp)) (λ other.
      wrote_letter begun prefix [] b nodes (bare begun prefix wrote))))

  -- after a literal
  wrote_text : (begun : List Begun) (prefix text : List ℕ) (b nodes : ℕ) → is_text text ≡ true → WroteAfter begun (34 ∷ text) prefix → WroteMaybe (step_from limit (Chars text) b begun nodes) (prefix ++ b ∷ [])
  wrote_text begun prefix text b nodes is wrote =
      let P = λ (o : Option State). WroteMaybe o (prefix ++ b ∷ []) in
      cond_both (b == 34) _ _ P (λ quote. rw (eqb-true b 34 quote) (record { part = Lit text; made = is; after = longer begun (34 ∷ text) prefix 34 wrote })) (λ other.
      cond_both (is_text (text ++ b ∷ [])) _ _ P (λ more. (more, longer begun (34 ∷ text) prefix b wrote)) (λ none. tt))

  -- after a leaf
  wrote_leaf : (begun : List Begun) (prefix : List ℕ) (leaf : Term) (b nodes : ℕ) → is_made leaf ≡ true → WroteAfter begun (term_text leaf) prefix → WroteMaybe (leave_leaf limit leaf b begun nodes) (prefix ++ b ∷ [])
  wrote_leaf begun prefix leaf b nodes made wrote = wrote_after begun prefix (part_within limit (nodes + 1) leaf) b (nodes + 1) (record { part = leaf; made = made; after = wrote })

  -- in a name
  wrote_name : (begun : List Begun) (prefix word : List ℕ) (b nodes : ℕ) → is_word word ≡ true → WroteAfter begun (64 ∷ word) prefix → WroteMaybe (step_from limit (Letters word) b begun nodes) (prefix ++ b ∷ [])
  wrote_name begun prefix word b nodes is wrote =
      let P = λ (o : Option State). WroteMaybe o (prefix ++ b ∷ []) in
      cond_both (is_word (word ++ b ∷ [])) _ _ P (λ more. (more, longer begun (64 ∷ word) prefix b wrote)) (λ none. wrote_leaf begun prefix (Name word) b nodes is wrote)

  -- a digit's value, and its byte again
  digit_value : (b : ℕ) → is_ascii_digit b ≡ true → b - 48 < 10
  digit_value b digit = grind (arith, nat_tests)

  digit_glyph_is : (b : ℕ) → is_ascii_digit b ≡ true → 48 + (b - 48) ≡ b
  digit_glyph_is b digit = grind (arith, nat_tests)

  -- the first digit of an index
  wrote_digit : (begun : List Begun) (prefix : List ℕ) (b nodes : ℕ) → WroteAfter begun (codes "#") prefix → WroteMaybe (step_from limit Sharp b begun nodes) (prefix ++ b ∷ [])
  wrote_digit begun prefix b nodes wrote =
      let P = λ (o : Option State). WroteMaybe o (prefix ++ b ∷ []) in
      cond_both (is_ascii_digit b) _ _ P (λ digit.
      let small = digit_value b digit in
      let glyph = digit_glyph_is b digit in
      let text : decimal (b - 48) ≡ b ∷ [] = decimal_digit (b - 48) small ∙ ap (λ (c : ℕ). c ∷ []) glyph in
      (omega arith, rw text (longer begun (codes "#") prefix b wrote))) (λ none. tt)

  -- one more digit of an index
  longer_decimal : (number b : ℕ) → goes_on number b ≡ true → decimal (10 * number + (b - 48)) ≡ decimal number ++ b ∷ []
  longer_decimal number b goes =
      let parts = and_parts (is_ascii_digit b) _ goes in
      let sizes = and_parts (nat_lt 0 number) _ parts.1 in
      let some : 0 < number = ltb-true 0 number sizes.0 in
      let index : 10 * number + (b - 48) < 4294967296 = ltb-true (10 * number + (b - 48)) 4294967296 sizes.1 in
      let small : b - 48 < 10 = digit_value b parts.0 in
      let glyph : 48 + (b - 48) ≡ b = digit_glyph_is b parts.0 in
      let prefix : (10 * number + (b - 48)) / 10 ≡ number = omega arith in
      let last : 48 + (10 * number + (b - 48)) % 10 ≡ b = omega arith in
      let cut : decimal (10 * number + (b - 48)) ≡ decimal ((10 * number + (b - 48)) / 10) ++ (48 + (10 * number + (b - 48)) % 10) ∷ [] = decimal_step (10 * number + (b - 48)) (omega arith) (omega arith) in
      cut ∙ rw (prefix, last) refl

  -- in an index
  wrote_index : (begun : List Begun) (prefix : List ℕ) (number b nodes : ℕ) → number < 4294967296 → WroteAfter begun (35 ∷ decimal number) prefix → WroteMaybe (step_from limit (Digits number) b begun nodes) (prefix ++ b ∷ [])
  wrote_index begun prefix number b nodes index wrote =
      let P = λ (o : Option State). WroteMaybe o (prefix ++ b ∷ []) in
      cond_both (goes_on number b) _ _ P (λ goes.
      let sizes = and_parts (nat_lt 0 number) _ (and_parts (is_ascii_digit b) _ goes).1 in
      (ltb-true (10 * number + (b - 48)) 4294967296 sizes.1, rw (longer_decimal number b goes) (longer begun (35 ∷ decimal number) prefix b wrote))) (λ none.
      wrote_leaf begun prefix (Nonce number) b nodes (lt-ltb number 4294967296 index) wrote)

  -- where one byte alone leads on
  wrote_byte : (wanted b : ℕ) (next : State) (prefix : List ℕ) → WroteState next (prefix ++ wanted ∷ []) → WroteMaybe (where_is wanted b next) (prefix ++ b ∷ [])
  wrote_byte wanted b next prefix wrote =
      cond_both (b == wanted) _ _ (λ (o : Option State). WroteMaybe o (prefix ++ b ∷ [])) (λ same. rw (eqb-true b wanted same) wrote) (λ other. tt)

  -- one more byte after the key of a derived key
  longer_key : (begun : List Begun) (last prefix : List ℕ) (b : ℕ) → WroteKey begun last prefix → WroteKey begun (last ++ b ∷ []) (prefix ++ b ∷ [])
  longer_key begun last prefix b wrote = record {
    key = wrote.key;
    made = wrote.made;
    after = record { before = wrote.after.before; wrote = wrote.after.wrote; split = rw wrote.after.split (simp append_assoc refl) };
  }

  -- in a context
  wrote_context : (begun : List Begun) (part : Part) (prefix text : List ℕ) (b nodes : ℕ) → is_text text ≡ true → WroteKey begun (codes ", \"" ++ text) prefix → WroteMaybe (step_from limit (ContextChars part text) b begun nodes) (prefix ++ b ∷ [])
  wrote_context begun part prefix text b nodes is wrote =
      let P = λ (o : Option State). WroteMaybe o (prefix ++ b ∷ []) in
      cond_both (b == 34) _ _ P (λ quote.
      let o = codes "kdf(" ++ (term_text wrote.key ++ (codes ", \"" ++ (text ++ codes "\", "))) in
      rw (eqb-true b 34 quote) (wrote.after.before, o, wrote.after.wrote, (wrote.key, wrote.made, is, refl), rw wrote.after.split (simp append_assoc refl))) (λ other.
      cond_both (is_text (text ++ b ∷ [])) _ _ P (λ more. (more, longer_key begun (codes ", \"" ++ text) prefix b wrote)) (λ none. tt))

  -- whatever was read, one byte more
  pub wrote_step : (reading : Reading) (begun : List Begun) (nodes b : ℕ) (prefix : List ℕ) → WroteReading reading begun prefix → WroteMaybe (step_from limit reading b begun nodes) (prefix ++ b ∷ [])
  wrote_step Due begun nodes b prefix wrote = wrote_due begun prefix b nodes wrote
  wrote_step (Constructor letters) begun nodes b prefix wrote =
      cond_both (b == 40) _ _ (λ (o : Option State). WroteMaybe o (prefix ++ b ∷ []))
      (λ bracket. rw (eqb-true b 40 bracket) (wrote_prefix begun prefix letters nodes (begun_by letters) (opening_of letters) wrote.1))
      (λ other. wrote_letter begun prefix letters b nodes wrote.1)
  wrote_step (Chars text) begun nodes b prefix wrote = wrote_text begun prefix text b nodes wrote.0 wrote.1
  wrote_step At begun nodes b prefix wrote =
      cond_both (is_word (b ∷ [])) _ _ (λ (o : Option State). WroteMaybe o (prefix ++ b ∷ [])) (λ word. (word, longer begun (codes "@") prefix b wrote)) (λ none. tt)
  wrote_step (Letters word) begun nodes b prefix wrote = wrote_name begun prefix word b nodes wrote.0 wrote.1
  wrote_step Sharp begun nodes b prefix wrote = wrote_digit begun prefix b nodes wrote
  wrote_step (Digits number) begun nodes b prefix wrote = wrote_index begun prefix number b nodes wrote.0 wrote.1
  wrote_step (After part) begun nodes b prefix wrote = wrote_after begun prefix part b nodes wrote
  wrote_step CommaDue begun nodes b prefix wrote = wrote_byte 44 b (state SpaceDue begun nodes) prefix (rw append_assoc wrote)
  wrote_step SpaceDue begun nodes b prefix wrote = wrote_byte 32 b (state Due begun nodes) prefix wrote
  wrote_step (ContextSpaceDue part) begun nodes b prefix wrote = wrote_byte 32 b (state (ContextDue part) begun nodes) prefix (longer_key begun (codes ",") prefix 32 wrote)
  wrote_step (ContextDue part) begun nodes b prefix wrote = wrote_byte 34 b (state (ContextChars part []) begun nodes) prefix (refl, longer_key begun (codes ", ") prefix 34 wrote)
  wrote_step (ContextChars part text) begun nodes b prefix wrote = wrote_context begun part prefix text b nodes wrote.0 wrote.1
