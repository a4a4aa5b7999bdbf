-- The text of a term is read, whatever was begun before.
use Rattle.std.proofs.Common.{◌≡◌, ℕ, ◌+◌, ◌-◌, ◌*◌, ◌/◌, ◌%◌, ◌<◌, ◌≤◌, true, nat_le, List, [], ◌∷◌, ◌++◌, codes, Some, None, refl, sym, subst, inl, inr, arith}
use Rattle.std.specs.Char.{is_ascii_digit}
use Rattle.std.specs.Fmt.{decimal}
use Rattle.std.proofs.lemmas.Bool.{cases_Bool, and_parts, leb-true, le-leb, ltb-true, lt-ltb}
use Rattle.std.proofs.lemmas.Bool.Decides.{nat_tests}
use Rattle.std.proofs.lemmas.List.{append_assoc, append-nil}
use Rattle.std.proofs.lemmas.Fmt.{decimal_by_steps}
use Rattle.dy_term.specs.Characters.{is_word, is_text}
use Rattle.dy_term.specs.Terms.{Term, Lit, Name, Nonce, Pair, Pk, Vk, Penc, Aead, Sign, Mac, Kdf, Hash, size}
use Rattle.dy_term.specs.TermText.{term_text}
use Rattle.dy_term.specs.TermReading.{is_made}
use Rattle.dy_term.specs.declared.begun.Single.{Single}
use Rattle.dy_term.specs.declared.begun.Single.TheVariants as single
use Rattle.dy_term.specs.declared.begun.Double.{Double}
use Rattle.dy_term.specs.declared.begun.Double.TheVariants as double
use Rattle.dy_term.specs.MirrorSteps.{State, Begun, One, First, Second, AeadKey, AeadMessage, AeadData, KdfKey, KdfInput, Part, Due, Chars, At, Letters, Sharp, Digits, After, ContextSpaceDue, ContextChars, SpaceDue, state, run, part_within, single_of, double_of, whole_single, whole_double, whole_aead, whole_kdf, goes_on}
use Rattle.dy_term.proofs.Prefixes.{text_prefix, text_unquoted, word_prefix, word_ends, no_digit}
use Rattle.dy_term.proofs.Runs.{run_through, Finishes, finishes_after, leaves}
use Rattle.dy_term.proofs.Constructors.{single_prefix, double_prefix, one_text, one_size, two_text, two_size, aead_text, kdf_text}

module _ (limit : ℕ) where
  -- ---- leaves

  -- the rest of a text is read
  chars_run : (prefix more : List ℕ) (begun : List Begun) (nodes : ℕ) → is_text (prefix ++ more) ≡ true → run limit (state (Chars prefix) begun nodes) more ≡ Some (state (Chars (prefix ++ more)) begun nodes)
  chars_run prefix [] begun nodes text = rw append-nil refl
  chars_run prefix (b ∷ more) begun nodes text =
      let split : (prefix ++ b ∷ []) ++ more ≡ prefix ++ b ∷ more = append_assoc prefix (b ∷ []) more in
      let here : is_text (prefix ++ b ∷ []) ≡ true = text_prefix (prefix ++ b ∷ []) more (rw split text) in
      rw (text_unquoted prefix b here, here, ← split) (chars_run (prefix ++ b ∷ []) more begun nodes (rw split text))

  -- the rest of a context is read
  context_run : (key : Part) (prefix more : List ℕ) (begun : List Begun) (nodes : ℕ) → is_text (prefix ++ more) ≡ true → run limit (state (ContextChars key prefix) begun nodes) more ≡ Some (state (ContextChars key (prefix ++ more)) begun nodes)
  context_run key prefix [] begun nodes text = rw append-nil refl
  context_run key prefix (b ∷ more) begun nodes text =
      let split : (prefix ++ b ∷ []) ++ more ≡ prefix ++ b ∷ more = append_assoc prefix (b ∷ []) more in
      let here : is_text (prefix ++ b ∷ []) ≡ true = text_prefix (prefix ++ b ∷ []) more (rw split text) in
      rw (text_unquoted prefix b here, here, ← split) (context_run key (prefix ++ b ∷ []) more begun nodes (rw split text))

  -- the rest of a name is read
  letters_run : (b : ℕ) (prefix more : List ℕ) (begun : List Begun) (nodes : ℕ) → is_word (b ∷ prefix ++ more) ≡ true → run limit (state (Letters (b ∷ prefix)) begun nodes) more ≡ Some (state (Letters (b ∷ prefix ++ more)) begun nodes)
  letters_run b prefix [] begun nodes word = rw append-nil refl
  letters_run b prefix (c ∷ more) begun nodes word =
      let split : (prefix ++ c ∷ []) ++ more ≡ prefix ++ c ∷ more = append_assoc prefix (c ∷ []) more in
      let here : is_word (b ∷ prefix ++ c ∷ []) ≡ true = word_prefix b (prefix ++ c ∷ []) more (rw split word) in
      rw (here, ← split) (letters_run b (prefix ++ c ∷ []) more begun nodes (rw split word))

  -- a name is read after its sign
  name_run : (word : List ℕ) (begun : List Begun) (nodes : ℕ) → is_word word ≡ true → run limit (state At begun nodes) word ≡ Some (state (Letters word) begun nodes)
  name_run [] begun nodes word = absurd cc
  name_run (b ∷ more) begun nodes word =
      let here : is_word (b ∷ []) ≡ true = word_prefix b [] more word in
      rw here (letters_run b [] more begun nodes word)

  -- The digits of this number, which is an index, lead from the sign to the number.
  abbrev DigitsRun : List Begun → ℕ → ℕ → List ℕ → Type 0
  DigitsRun begun nodes number digits = number < 4294967296 → run limit (state Sharp begun nodes) digits ≡ Some (state (Digits number) begun nodes)

  -- one digit
  one_digit : (begun : List Begun) (nodes number : ℕ) → number < 10 → DigitsRun begun nodes number ((48 + number) ∷ [])
  one_digit begun nodes number small index =
      let digit : is_ascii_digit (48 + number) ≡ true = grind (arith, nat_tests) in
      let value : (48 + number) - 48 ≡ number = omega arith in
      rw (digit, value) refl

  -- one more digit
  more_digits : (begun : List Begun) (nodes number : ℕ) (digits : List ℕ) → 10 ≤ number → DigitsRun begun nodes (number / 10) digits → DigitsRun begun nodes number (digits ++ (48 + number % 10) ∷ [])
  more_digits begun nodes number digits large prefix index =
      let before : run limit (state Sharp begun nodes) digits ≡ Some (state (Digits (number / 10)) begun nodes) = prefix (omega arith) in
      let digit : is_ascii_digit (48 + number % 10) ≡ true = grind (arith, nat_tests) in
      let value : 10 * (number / 10) + ((48 + number % 10) - 48) ≡ number = omega arith in
      let goes : goes_on (number / 10) (48 + number % 10) ≡ true = rw (digit, value, lt-ltb 0 (number / 10) (omega arith), lt-ltb number 4294967296 index) refl in
      run_through limit (state Sharp begun nodes) (state (Digits (number / 10)) begun nodes) _ digits _ before (rw (goes, value) refl)

  -- an index is read after its sign
  index_run : (number : ℕ) (begun : List Begun) (nodes : ℕ) → number < 4294967296 → run limit (state Sharp begun nodes) (decimal number) ≡ Some (state (Digits number) begun nodes)
  index_run number begun nodes index =
      decimal_by_steps (DigitsRun begun nodes) (one_digit begun nodes) (more_digits begun nodes) number (omega arith) index

  -- after a name
  finishes_name : (word : List ℕ) (begun : List Begun) (nodes : ℕ) → Finishes limit (state (Letters word) begun nodes) (part_within limit (nodes + 1) (Name word)) begun (nodes + 1)
  finishes_name word begun nodes = record { settles = refl; below = refl; goes = λ b other. rw (word_ends word b other) refl }

  -- after an index
  finishes_index : (number : ℕ) (begun : List Begun) (nodes : ℕ) → Finishes limit (state (Digits number) begun nodes) (part_within limit (nodes + 1) (Nonce number)) begun (nodes + 1)
  finishes_index number begun nodes = record { settles = refl; below = refl; goes = λ b other. rw (no_digit b other) refl }

  -- ---- terms

  -- the text of the term is read
  pub record Reads (t : Term) (begun : List Begun) (nodes : ℕ) : Type 0 where
    pub after : State
    pub runs : run limit (state Due begun nodes) (term_text t) ≡ Some after
    pub finishes : Finishes limit after (part_within limit (nodes + size t) t) begun (nodes + size t)

  -- the name of a constructor and its bracket are read
  opens_two : (maker : Double) (begun : List Begun) (nodes : ℕ) → run limit (state Due begun nodes) (double_prefix maker) ≡ Some (state Due (First maker ∷ begun) (nodes + 1))
  opens_two double.Pair begun nodes = refl
  opens_two double.Penc begun nodes = refl
  opens_two double.Sign begun nodes = refl
  opens_two double.Mac begun nodes = refl

  -- the name of a constructor and its bracket are read
  opens_one : (maker : Single) (begun : List Begun) (nodes : ℕ) → run limit (state Due begun nodes) (single_prefix maker) ≡ Some (state Due (One maker ∷ begun) (nodes + 1))
  opens_one single.Pk begun nodes = refl
  opens_one single.Vk begun nodes = refl
  opens_one single.Hash begun nodes = refl

  -- a literal
  reads_text : (text : List ℕ) (begun : List Begun) (nodes : ℕ) → is_text text ≡ true → Reads (Lit text) begun nodes
  reads_text text begun nodes is = record {
    after = state (After (part_within limit (nodes + 1) (Lit text))) begun (nodes + 1);
    runs = run_through limit (state (Chars []) begun nodes) (state (Chars text) begun nodes) _ text (34 ∷ []) (chars_run [] text begun nodes is) refl;
    finishes = finishes_after limit _ begun (nodes + 1);
  }

  -- a name
  reads_name : (word : List ℕ) (begun : List Begun) (nodes : ℕ) → is_word word ≡ true → Reads (Name word) begun nodes
  reads_name word begun nodes is = record {
    after = state (Letters word) begun nodes;
    runs = name_run word begun nodes is;
    finishes = finishes_name word begun nodes;
  }

  -- an index
  reads_index : (number : ℕ) (begun : List Begun) (nodes : ℕ) → number < 4294967296 → Reads (Nonce number) begun nodes
  reads_index number begun nodes index = record {
    after = state (Digits number) begun nodes;
    runs = index_run number begun nodes index;
    finishes = finishes_index number begun nodes;
  }

  -- what is part_within of a constructor is part_within of its parts
  kept_one : (maker : Single) (nodes : ℕ) (part : Term) → whole_single maker (part_within limit nodes part) ≡ part_within limit nodes (single_of maker part)
  kept_one maker nodes part = elim (cases_Bool (nat_le nodes limit)) [ inl few ↦ rw few refl | inr many ↦ rw many refl ]

  no_second : (maker : Double) (first : Part) → whole_double maker first None ≡ None
  no_second maker None = refl
  no_second maker (Some first) = refl

  few_before : (nodes more : ℕ) → nodes ≤ more → nat_le more limit ≡ true → nat_le nodes limit ≡ true
  few_before nodes more grows few = le-leb nodes limit (omega (arith, leb-true more limit few))

  kept_two : (maker : Double) (nodes more : ℕ) (first second : Term) → nodes ≤ more → whole_double maker (part_within limit nodes first) (part_within limit more second) ≡ part_within limit more (double_of maker first second)
  kept_two maker nodes more first second grows = elim (cases_Bool (nat_le more limit)) [
    | inl few ↦ rw (few, few_before nodes more grows few) refl
    | inr many ↦ rw many (no_second maker (part_within limit nodes first))
  ]

  no_input : (key : Part) (context : List ℕ) → whole_kdf key context None ≡ None
  no_input None context = refl
  no_input (Some key) context = refl

  kept_kdf : (nodes more : ℕ) (key : Term) (context : List ℕ) (input : Term) → nodes ≤ more → whole_kdf (part_within limit nodes key) context (part_within limit more input) ≡ part_within limit more (Kdf key context input)
  kept_kdf nodes more key context input grows = elim (cases_Bool (nat_le more limit)) [
    | inl few ↦ rw (few, few_before nodes more grows few) refl
    | inr many ↦ rw many (no_input (part_within limit nodes key) context)
  ]

  no_associated : (key message : Part) → whole_aead key message None ≡ None
  no_associated None message = refl
  no_associated (Some key) None = refl
  no_associated (Some key) (Some message) = refl

  kept_aead : (nodes more most : ℕ) (key message associated : Term) → nodes ≤ more → more ≤ most → whole_aead (part_within limit nodes key) (part_within limit more message) (part_within limit most associated) ≡ part_within limit most (Aead key message associated)
  kept_aead nodes more most key message associated grows on = elim (cases_Bool (nat_le most limit)) [
    | inl few ↦ let some = few_before more most on few in rw (few, some, few_before nodes more grows some) refl
    | inr many ↦ rw many (no_associated (part_within limit nodes key) (part_within limit more message))
  ]

  -- the text of a part is read wherever it is due
  abbrev ReadsAlways : Term → Type 0
  ReadsAlways t = (begun : List Begun) (nodes : ℕ) → Reads t begun nodes

  reads_one : (maker : Single) (part : Term) → ReadsAlways part → ReadsAlways (single_of maker part)
  reads_one maker part reads begun nodes =
      let inner = reads (One maker ∷ begun) (nodes + 1) in
      let count : nodes + 1 + size part ≡ nodes + size (single_of maker part) = rw one_size (omega arith) in
      let last = state (After (part_within limit (nodes + 1 + size part) (single_of maker part))) begun (nodes + 1 + size part) in
      let closes : run limit inner.after (codes ")") ≡ Some last =
      leaves limit inner.after _ (One maker ∷ begun) (nodes + 1 + size part) 41 [] last last inner.finishes refl (rw kept_one refl) refl in
      record {
        after = last;
        runs = rw one_text (run_through limit _ _ last (single_prefix maker) _ (opens_one maker begun nodes) (run_through limit _ inner.after last (term_text part) _ inner.runs closes));
        finishes = subst (λ (n : ℕ). Finishes limit last (part_within limit n (single_of maker part)) begun n) count (finishes_after limit _ begun (nodes + 1 + size part));
      }

  reads_two : (maker : Double) (first second : Term) → ReadsAlways first → ReadsAlways second → ReadsAlways (double_of maker first second)
  reads_two maker first second reads_first reads_second begun nodes =
      let n1 = nodes + 1 + size first in
      let n2 = n1 + size second in
      let one = reads_first (First maker ∷ begun) (nodes + 1) in
      let between = Second maker (part_within limit n1 first) ∷ begun in
      let two = reads_second between n1 in
      let last = state (After (part_within limit n2 (double_of maker first second))) begun n2 in
      let count : n2 ≡ nodes + size (double_of maker first second) = rw two_size (omega arith) in
      let grows : n1 ≤ n2 = omega arith in
      let made : whole_double maker (part_within limit n1 first) (part_within limit n2 second) ≡ part_within limit n2 (double_of maker first second) = kept_two maker n1 n2 first second grows in
      let closes : run limit two.after (codes ")") ≡ Some last =
      leaves limit two.after _ between n2 41 [] last last two.finishes refl (rw made refl) refl in
      let second_run = run_through limit (state Due between n1) two.after last (term_text second) (codes ")") two.runs closes in
      let comma : run limit one.after (codes ", " ++ (term_text second ++ codes ")")) ≡ Some last =
      leaves limit one.after _ (First maker ∷ begun) n1 44 (32 ∷ (term_text second ++ codes ")")) (state SpaceDue between n1) last one.finishes refl refl second_run in
      record {
        after = last;
        runs = rw two_text (run_through limit _ _ last (double_prefix maker) _ (opens_two maker begun nodes) (run_through limit _ one.after last (term_text first) _ one.runs comma));
        finishes = subst (λ (n : ℕ). Finishes limit last (part_within limit n (double_of maker first second)) begun n) count (finishes_after limit _ begun n2);
      }

  reads_aead : (key message associated : Term) → ReadsAlways key → ReadsAlways message → ReadsAlways associated → ReadsAlways (Aead key message associated)
  reads_aead key message associated reads_key reads_message reads_associated begun nodes =
      let n1 = nodes + 1 + size key in
      let n2 = n1 + size message in
      let n3 = n2 + size associated in
      let one = reads_key (AeadKey ∷ begun) (nodes + 1) in
      let after_key = AeadMessage (part_within limit n1 key) ∷ begun in
      let two = reads_message after_key n1 in
      let after_message = AeadData (part_within limit n1 key) (part_within limit n2 message) ∷ begun in
      let three = reads_associated after_message n2 in
      let last = state (After (part_within limit n3 (Aead key message associated))) begun n3 in
      let count : n3 ≡ nodes + size (Aead key message associated) = omega arith in
      let grows : n1 ≤ n2 = omega arith in
      let on : n2 ≤ n3 = omega arith in
      let made : whole_aead (part_within limit n1 key) (part_within limit n2 message) (part_within limit n3 associated) ≡ part_within limit n3 (Aead key message associated) = kept_aead n1 n2 n3 key message associated grows on in
      let closes : run limit three.after (codes ")") ≡ Some last =
      leaves limit three.after _ after_message n3 41 [] last last three.finishes refl (rw made refl) refl in
      let third_run = run_through limit (state Due after_message n2) three.after last (term_text associated) (codes ")") three.runs closes in
      let third : run limit two.after (codes ", " ++ (term_text associated ++ codes ")")) ≡ Some last =
      leaves limit two.after _ after_key n2 44 (32 ∷ (term_text associated ++ codes ")")) (state SpaceDue after_message n2) last two.finishes refl refl third_run in
      let second_run = run_through limit (state Due after_key n1) two.after last (term_text message) _ two.runs third in
      let more = codes ", " ++ (term_text message ++ (codes ", " ++ (term_text associated ++ codes ")"))) in
      let second : run limit one.after more ≡ Some last =
      leaves limit one.after _ (AeadKey ∷ begun) n1 44 (32 ∷ (term_text message ++ (codes ", " ++ (term_text associated ++ codes ")")))) (state SpaceDue after_key n1) last one.finishes refl refl second_run in
      record {
        after = last;
        runs = subst (λ (text : List ℕ). run limit (state Due begun nodes) text ≡ Some last) (sym (aead_text key message associated)) (run_through limit (state Due begun nodes) (state Due (AeadKey ∷ begun) (nodes + 1)) last (codes "aead(") (term_text key ++ more) refl (run_through limit _ one.after last (term_text key) more one.runs second));
        finishes = subst (λ (n : ℕ). Finishes limit last (part_within limit n (Aead key message associated)) begun n) count (finishes_after limit _ begun n3);
      }

  reads_kdf : (key : Term) (context : List ℕ) (input : Term) → ReadsAlways key → is_text context ≡ true → ReadsAlways input → ReadsAlways (Kdf key context input)
  reads_kdf key context input reads_key text reads_input begun nodes =
      let n1 = nodes + 1 + size key in
      let n2 = n1 + size input in
      let one = reads_key (KdfKey ∷ begun) (nodes + 1) in
      let after_context = KdfInput (part_within limit n1 key) context ∷ begun in
      let two = reads_input after_context n1 in
      let last = state (After (part_within limit n2 (Kdf key context input))) begun n2 in
      let count : n2 ≡ nodes + size (Kdf key context input) = omega arith in
      let grows : n1 ≤ n2 = omega arith in
      let made : whole_kdf (part_within limit n1 key) context (part_within limit n2 input) ≡ part_within limit n2 (Kdf key context input) = kept_kdf n1 n2 key context input grows in
      let closes : run limit two.after (codes ")") ≡ Some last =
      leaves limit two.after _ after_context n2 41 [] last last two.finishes refl (rw made refl) refl in
      let second_run = run_through limit (state Due after_context n1) two.after last (term_text input) (codes ")") two.runs closes in
      let quote : run limit (state (ContextChars (part_within limit n1 key) context) begun n1) (codes "\", " ++ (term_text input ++ codes ")")) ≡ Some last = second_run in
      let inside = run_through limit (state (ContextChars (part_within limit n1 key) []) begun n1) (state (ContextChars (part_within limit n1 key) context) begun n1) last context _ (context_run (part_within limit n1 key) [] context begun n1 text) quote in
      let more = codes ", \"" ++ (context ++ (codes "\", " ++ (term_text input ++ codes ")"))) in
      let comma : run limit one.after more ≡ Some last =
      leaves limit one.after _ (KdfKey ∷ begun) n1 44 (32 ∷ 34 ∷ (context ++ (codes "\", " ++ (term_text input ++ codes ")")))) (state (ContextSpaceDue (part_within limit n1 key)) begun n1) last one.finishes refl refl inside in
      record {
        after = last;
        runs = subst (λ (text : List ℕ). run limit (state Due begun nodes) text ≡ Some last) (sym (kdf_text key context input)) (run_through limit (state Due begun nodes) (state Due (KdfKey ∷ begun) (nodes + 1)) last (codes "kdf(") (term_text key ++ more) refl (run_through limit _ one.after last (term_text key) more one.runs comma));
        finishes = subst (λ (n : ℕ). Finishes limit last (part_within limit n (Kdf key context input)) begun n) count (finishes_after limit _ begun n2);
      }

  -- the text of a term is read
  pub reads : (t : Term) → is_made t ≡ true → ReadsAlways t
  reads (Lit text) made begun nodes = reads_text text begun nodes made
  reads (Name word) made begun nodes = reads_name word begun nodes made
  reads (Nonce number) made begun nodes = reads_index number begun nodes (ltb-true number 4294967296 made)
  reads (Pair first second) made begun nodes = let parts = and_parts (is_made first) (is_made second) made in reads_two double.Pair first second (reads first parts.0) (reads second parts.1) begun nodes
  reads (Pk key) made begun nodes = reads_one single.Pk key (reads key made) begun nodes
  reads (Vk key) made begun nodes = reads_one single.Vk key (reads key made) begun nodes
  reads (Penc to message) made begun nodes = let parts = and_parts (is_made to) (is_made message) made in reads_two double.Penc to message (reads to parts.0) (reads message parts.1) begun nodes
  reads (Aead key message associated) made begun nodes =
      let parts = and_parts (is_made key) _ made in
      let more = and_parts (is_made message) (is_made associated) parts.1 in
      reads_aead key message associated (reads key parts.0) (reads message more.0) (reads associated more.1) begun nodes
  reads (Sign key message) made begun nodes = let parts = and_parts (is_made key) (is_made message) made in reads_two double.Sign key message (reads key parts.0) (reads message parts.1) begun nodes
  reads (Mac key message) made begun nodes = let parts = and_parts (is_made key) (is_made message) made in reads_two double.Mac key message (reads key parts.0) (reads message parts.1) begun nodes
  reads (Kdf key context input) made begun nodes =
      let parts = and_parts (is_made key) _ made in
      let more = and_parts (is_text context) (is_made input) parts.1 in
      reads_kdf key context input (reads key parts.0) more.0 (reads input more.1) begun nodes
  reads (Hash message) made begun nodes = reads_one single.Hash message (reads message made) begun nodes
