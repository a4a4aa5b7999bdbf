-- What was read begins the text of a term.
use Rattle.std.proofs.Common.{◌≡◌, ℕ, true, false, ◌==◌, List, [], ◌∷◌, ◌++◌, codes, length, drop, Option, Some, None, refl, sym, subst, ◌∙◌, inl, inr, arith}
use Rattle.std.specs.Fmt.{decimal}
use Rattle.std.proofs.lemmas.Bool.{and_from, or_cases, lt-ltb}
use Rattle.std.proofs.lemmas.Bool.Decides.{nat_tests, Decides-eqb}
use Rattle.std.proofs.lemmas.List.{append_assoc, append-nil}
use Rattle.std.proofs.lemmas.Slice.Eq.{starts_is}
use Rattle.dy_term.specs.Characters.{is_text}
use Rattle.dy_term.specs.Terms.{Term, Lit, Name, Nonce, Aead, Kdf}
use Rattle.dy_term.specs.TermText.{term_text}
use Rattle.dy_term.specs.TermReading.{is_made, IsTextOf, BeginsText}
use Rattle.dy_term.specs.declared.begun.Single.TheVariants as single
use Rattle.dy_term.specs.declared.begun.Double.TheVariants as double
use Rattle.dy_term.specs.MirrorSteps.{Begun, One, First, Second, AeadKey, AeadMessage, AeadData, KdfKey, KdfInput, Part, Reading, Due, Constructor, Chars, At, Letters, Sharp, Digits, After, CommaDue, SpaceDue, ContextSpaceDue, ContextDue, ContextChars, state, double_of, begins_name, starts, whole_part, end}
use Rattle.std.specs.Prelude.{if◌then◌else◌}
use Rattle.dy_term.proofs.Constructors.{two_text, aead_text, kdf_text}
use Rattle.dy_term.proofs.Written.{Opening, Wrote, WroteAfter, WroteKey, WroteReading, two_made, Closes, closes_one, closes_two, closes_aead, closes_kdf}

-- what begins with bytes that begin a text begins one
begins_prefix : (prefix more : List ℕ) → BeginsText (prefix ++ more) → BeginsText prefix
begins_prefix prefix more begins = (begins.0, more ++ begins.1, rw (← append_assoc) begins.2)

-- an index, for a part that is still due
abbrev zero : Term
zero = Nonce 0

-- some text after a part makes the constructor around it whole
pub record Ends (o : List ℕ) (part : Term) : Type 0 where
  pub rest : List ℕ
  pub closes : Closes o part rest

ends : (maker : Begun) (o : List ℕ) (part : Term) → Opening maker o → is_made part ≡ true → Ends o part
ends (One maker) o part opening made = record { rest = codes ")"; closes = rw opening (closes_one maker part made) }
ends (First maker) o part opening made = record {
  rest = codes ", " ++ (term_text zero ++ codes ")");
  closes = record { whole = double_of maker part zero; made = two_made maker part zero made refl; spelled = rw (opening, two_text) refl };
}
ends (Second maker first) o part opening made = record { rest = codes ")"; closes = rw opening.2 (closes_two maker opening.0 part opening.1 made) }
ends AeadKey o part opening made = record {
  rest = codes ", " ++ (term_text zero ++ (codes ", " ++ (term_text zero ++ codes ")")));
  closes = record {
    whole = Aead part zero zero;
    made = and_from (is_made part) _ made refl;
    spelled = rw opening (sym (aead_text part zero zero));
  };
}
ends (AeadMessage key) o part opening made = record {
  rest = codes ", " ++ (term_text zero ++ codes ")");
  closes = record {
    whole = Aead opening.0 part zero;
    made = and_from (is_made opening.0) _ opening.1 (and_from (is_made part) _ made refl);
    spelled = let same : (codes "aead(" ++ (term_text opening.0 ++ codes ", ")) ++ (term_text part ++ (codes ", " ++ (term_text zero ++ codes ")"))) ≡ codes "aead(" ++ (term_text opening.0 ++ (codes ", " ++ (term_text part ++ (codes ", " ++ (term_text zero ++ codes ")"))))) = simp append_assoc refl in rw opening.2 (same ∙ sym (aead_text opening.0 part zero));
  };
}
ends (AeadData key message) o part opening made = record { rest = codes ")"; closes = rw opening.4 (closes_aead opening.0 opening.1 part opening.2 opening.3 made) }
ends KdfKey o part opening made = record {
  rest = codes ", \"" ++ (codes "\", " ++ (term_text zero ++ codes ")"));
  closes = record {
    whole = Kdf part [] zero;
    made = and_from (is_made part) _ made refl;
    spelled = rw opening (sym (kdf_text part [] zero));
  };
}
ends (KdfInput key context) o part opening made = record { rest = codes ")"; closes = rw opening.3 (closes_kdf opening.0 context part opening.1 opening.2 made) }

-- a part after the constructors that are begun begins the text of a term
begins_part : (begun : List Begun) (before : List ℕ) (part : Term) → Wrote begun before → is_made part ≡ true → BeginsText (before ++ term_text part)
begins_part [] before part wrote made = (part, [], record { made = made; spelled = rw (wrote, append-nil) refl })
begins_part (maker ∷ begun) before part wrote made =
    let end_of = ends maker wrote.1 part wrote.3 made in
    let outer = begins_part begun wrote.0 end_of.closes.whole wrote.2 end_of.closes.made in
    let same : wrote.0 ++ term_text end_of.closes.whole ≡ (before ++ term_text part) ++ end_of.rest = rw (← end_of.closes.spelled, wrote.4) (simp append_assoc refl) in
    begins_prefix (before ++ term_text part) end_of.rest (subst BeginsText same outer)

-- this is the prefix of such a part
begins_in : (begun : List Begun) (last prefix : List ℕ) (part : Term) (more : List ℕ) → WroteAfter begun last prefix → is_made part ≡ true → last ++ more ≡ term_text part → BeginsText prefix
begins_in begun last prefix part more wrote made same =
    let whole : wrote.before ++ term_text part ≡ prefix ++ more = rw (wrote.split, ← same) (sym (append_assoc wrote.before last more)) in
    begins_prefix prefix more (subst BeginsText whole (begins_part begun wrote.before part wrote.wrote made))

-- after the key of a derived key
begins_key : (begun : List Begun) (last prefix more : List ℕ) (context : List ℕ) → WroteKey begun last prefix → is_text context ≡ true → last ++ more ≡ codes ", \"" ++ (context ++ (codes "\", " ++ (term_text zero ++ codes ")"))) → BeginsText prefix
begins_key begun last prefix more context wrote is same =
    let made : is_made (Kdf wrote.key context zero) ≡ true = and_from (is_made wrote.key) _ wrote.made (and_from (is_text context) _ is refl) in
    let text : (codes "kdf(" ++ (term_text wrote.key ++ last)) ++ more ≡ codes "kdf(" ++ (term_text wrote.key ++ (codes ", \"" ++ (context ++ (codes "\", " ++ (term_text zero ++ codes ")"))))) = rw (← same) (simp append_assoc refl) in
    begins_in begun (codes "kdf(" ++ (term_text wrote.key ++ last)) prefix (Kdf wrote.key context zero) more wrote.after made (text ∙ sym (kdf_text wrote.key context zero))

-- after a constructor, a term may stand
begins_due : (begun : List Begun) (before : List ℕ) → Wrote begun before → BeginsText before
begins_due begun before wrote = begins_prefix before (term_text zero) (begins_part begun before zero wrote refl)

-- letters that begin the name of a constructor, and the rest of it
pub record Named (letters : List ℕ) : Type 0 where
  pub maker : Begun
  pub more : List ℕ
  pub opening : Opening maker ((letters ++ more) ++ 40 ∷ [])

starts_prefix : (name letters : List ℕ) → starts name letters ≡ true → name ≡ letters ++ drop (length letters) name
starts_prefix name letters starts_so = (starts_is Decides-eqb name letters (starts name letters) refl).0 starts_so

named_as : (name : List ℕ) (maker : Begun) → Opening maker (name ++ 40 ∷ []) → (letters : List ℕ) → starts name letters ≡ true → Named letters
named_as name maker opening letters starts_so = record {
  maker = maker;
  more = drop (length letters) name;
  opening = subst (λ (whole : List ℕ). Opening maker (whole ++ 40 ∷ [])) (starts_prefix name letters starts_so) opening;
}

-- letters that begin a name have a rest
named : (letters : List ℕ) → begins_name letters ≡ true → Named letters
named letters begins =
    elim (or_cases _ (starts (codes "hash") letters) begins) [
      | inr starts_so ↦ named_as (codes "hash") (One single.Hash) refl letters starts_so
      | inl prefix ↦
          elim (or_cases _ (starts (codes "kdf") letters) prefix) [
            | inr starts_so ↦ named_as (codes "kdf") (KdfKey) refl letters starts_so
            | inl prefix ↦
                elim (or_cases _ (starts (codes "mac") letters) prefix) [
                  | inr starts_so ↦ named_as (codes "mac") (First double.Mac) refl letters starts_so
                  | inl prefix ↦
                      elim (or_cases _ (starts (codes "sign") letters) prefix) [
                        | inr starts_so ↦ named_as (codes "sign") (First double.Sign) refl letters starts_so
                        | inl prefix ↦
                            elim (or_cases _ (starts (codes "aead") letters) prefix) [
                              | inr starts_so ↦ named_as (codes "aead") (AeadKey) refl letters starts_so
                              | inl prefix ↦
                                  elim (or_cases _ (starts (codes "penc") letters) prefix) [
                                    | inr starts_so ↦ named_as (codes "penc") (First double.Penc) refl letters starts_so
                                    | inl prefix ↦
                                        elim (or_cases _ (starts (codes "vk") letters) prefix) [
                                          | inr starts_so ↦ named_as (codes "vk") (One single.Vk) refl letters starts_so
                                          | inl prefix ↦
                                              elim (or_cases _ (starts (codes "pk") letters) prefix) [
                                                | inr starts_so ↦ named_as (codes "pk") (One single.Pk) refl letters starts_so
                                                | inl prefix ↦
                                                    named_as (codes "pair") (First double.Pair) refl letters prefix
                                              ]
                                        ]
                                  ]
                            ]
                      ]
                ]
          ]
    ]

-- a name begun
begins_name_of : (begun : List Begun) (prefix letters : List ℕ) → begins_name letters ≡ true → WroteAfter begun letters prefix → BeginsText prefix
begins_name_of begun prefix letters begins wrote =
    let name = named letters begins in
    let o = (letters ++ name.more) ++ 40 ∷ [] in
    let split : wrote.before ++ o ≡ prefix ++ (name.more ++ 40 ∷ []) = rw wrote.split (simp append_assoc refl) in
    let due = begins_due (name.maker ∷ begun) (wrote.before ++ o) (wrote.before, o, wrote.wrote, name.opening, refl) in
    begins_prefix prefix (name.more ++ 40 ∷ []) (subst BeginsText split due)

-- whatever was read begins the text of a term
pub begins : (reading : Reading) (begun : List Begun) (prefix : List ℕ) → WroteReading reading begun prefix → BeginsText prefix
begins Due begun prefix wrote = begins_due begun prefix wrote
begins (Constructor letters) begun prefix wrote = begins_name_of begun prefix letters wrote.0 wrote.1
begins (Chars text) begun prefix wrote = begins_in begun (34 ∷ text) prefix (Lit text) (34 ∷ []) wrote.1 wrote.0 refl
begins At begun prefix wrote = begins_in begun (codes "@") prefix (Name (codes "a")) (codes "a") wrote refl refl
begins (Letters word) begun prefix wrote = begins_in begun (64 ∷ word) prefix (Name word) [] wrote.1 wrote.0 (append-nil (64 ∷ word))
begins Sharp begun prefix wrote = begins_in begun (codes "#") prefix zero (decimal 0) wrote refl refl
begins (Digits number) begun prefix wrote = begins_in begun (35 ∷ decimal number) prefix (Nonce number) [] wrote.1 (lt-ltb number 4294967296 wrote.0) (append-nil (35 ∷ decimal number))
begins (After part) begun prefix wrote = begins_in begun (term_text wrote.part) prefix wrote.part [] wrote.after wrote.made (append-nil (term_text wrote.part))
begins CommaDue begun prefix wrote = begins_prefix prefix (codes ", ") (begins_due begun (prefix ++ codes ", ") wrote)
begins SpaceDue begun prefix wrote = begins_prefix prefix (codes " ") (begins_due begun (prefix ++ codes " ") wrote)
begins (ContextSpaceDue part) begun prefix wrote = begins_key begun (codes ",") prefix (codes " \"\", " ++ (term_text zero ++ codes ")")) [] wrote refl refl
begins (ContextDue part) begun prefix wrote = begins_key begun (codes ", ") prefix (codes "\"\", " ++ (term_text zero ++ codes ")")) [] wrote refl refl
begins (ContextChars part text) begun prefix wrote = begins_key begun (codes ", \"" ++ text) prefix (codes "\", " ++ (term_text zero ++ codes ")")) text wrote.1 wrote.0 (simp append_assoc refl)

-- nothing ends where a constructor is begun
some_begun : (maker : Begun) (begun : List Begun) (whole : Option (Part × ℕ)) (answer : Part × ℕ) → if length (maker ∷ begun) == 0 then whole else None ≡ Some answer → ⊥
some_begun maker begun whole answer ended = let other : (length (maker ∷ begun) == 0) ≡ false = grind (arith, nat_tests) in let none : None ≡ Some answer = rw other at ended in cc

module _ (limit : ℕ) where
  -- where a part may end, and nothing is begun, the text of a term was read
  pub whole_text : (reading : Reading) (begun : List Begun) (nodes : ℕ) (prefix : List ℕ) (answer : Part × ℕ) → WroteReading reading begun prefix → end limit (state reading begun nodes) ≡ Some answer → (term : Term) × IsTextOf term prefix
  whole_text (After part) [] nodes prefix answer wrote ended = (wrote.part, record { made = wrote.made; spelled = rw (wrote.after.split, wrote.after.wrote) refl })
  whole_text (Letters word) [] nodes prefix answer wrote ended = (Name word, record { made = wrote.0; spelled = rw (wrote.1.split, wrote.1.wrote) refl })
  whole_text (Digits number) [] nodes prefix answer wrote ended = (Nonce number, record { made = lt-ltb number 4294967296 wrote.0; spelled = rw (wrote.1.split, wrote.1.wrote) refl })
  whole_text Due [] nodes prefix answer wrote ended = absurd cc
  whole_text (Constructor letters) [] nodes prefix answer wrote ended = absurd cc
  whole_text (Chars text) [] nodes prefix answer wrote ended = absurd cc
  whole_text At [] nodes prefix answer wrote ended = absurd cc
  whole_text Sharp [] nodes prefix answer wrote ended = absurd cc
  whole_text CommaDue [] nodes prefix answer wrote ended = absurd cc
  whole_text SpaceDue [] nodes prefix answer wrote ended = absurd cc
  whole_text (ContextSpaceDue part) [] nodes prefix answer wrote ended = absurd cc
  whole_text (ContextDue part) [] nodes prefix answer wrote ended = absurd cc
  whole_text (ContextChars part text) [] nodes prefix answer wrote ended = absurd cc
  whole_text reading (maker ∷ begun) nodes prefix answer wrote ended = absurd (some_begun maker begun (whole_part limit reading nodes) answer ended)
