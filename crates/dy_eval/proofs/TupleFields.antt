-- The fields of tuples.
use Rattle.std.proofs.Common.{◌≡◌, ◌∙◌, ap, sym, ℕ, zero, suc, true, Option, Some, None, List, [], ◌∷◌, length, refl, inl, inr, arith}
use Rattle.std.specs.Option.{option_map}
use Rattle.std.proofs.lemmas.Bool.{cases_Bool}
use Rattle.dy_term.specs.Terms.{Term, Lit, Name, Nonce, Pair, Pk, Vk, Penc, Aead, Sign, Mac, Kdf, Hash}
use Rattle.dy_term.specs.Sameness.{is_same}
use Rattle.dy_term.specs.Tuples.{right_pairs, tagged_tuple}
use Rattle.dy_eval.specs.Patterns.{terms_in, fields_in}

abbrev Equal : Type 0
Equal = (a b : Term) → is_same a b ≡ true → a ≡ b

terms_found : (term : Term) (terms : List Term) → terms_in (length terms) (right_pairs term terms) ≡ Some (term ∷ terms)
terms_found term [] = refl
terms_found term (next ∷ terms) = ap (option_map (λ found. term ∷ found)) (terms_found next terms)

-- the fields of a tuple are found
pub fields_found : ((a : Term) → is_same a a ≡ true) → (tag : List ℕ) (fields : List Term) → fields_in tag (length fields) (tagged_tuple tag fields) ≡ Some fields
fields_found same tag [] = rw (same (Lit tag)) refl
fields_found same tag (field ∷ fields) = rw (same (Lit tag)) (terms_found field fields)

-- These are terms that are nested to the right, one more than the number.
record AreTerms (more : ℕ) (term : Term) (terms : List Term) : Type 0 where
  first : Term
  others : List Term
  is : terms ≡ first ∷ others
  nested : term ≡ right_pairs first others
  number : length others ≡ more

one_more : (more : ℕ) (term rest : Term) (found : Option (List Term)) (terms : List Term)
    → ((others : List Term) → found ≡ Some others → AreTerms more rest others)
    → option_map (λ others. term ∷ others) found ≡ Some terms → AreTerms (suc more) (Pair term rest) terms
one_more more term rest None terms are is = grind arith
one_more more term rest (Some others) terms are is =
    let h = are others refl in
    record {
      first = term;
      others = others;
      is = grind arith;
      nested = ap (Pair term) h.nested ∙ ap (right_pairs term) (sym h.is);
      number = ap length h.is ∙ grind (arith, h.number);
    }

are_terms : (more : ℕ) (term : Term) (terms : List Term) → terms_in more term ≡ Some terms → AreTerms more term terms
are_terms zero term terms is = record { first = term; others = []; is = grind arith; nested = refl; number = refl }
are_terms (suc more) (Pair term rest) terms is = one_more more term rest (terms_in more rest) terms (are_terms more rest) is
are_terms (suc more) (Lit a) terms is = grind arith
are_terms (suc more) (Name a) terms is = grind arith
are_terms (suc more) (Nonce a) terms is = grind arith
are_terms (suc more) (Pk a) terms is = grind arith
are_terms (suc more) (Vk a) terms is = grind arith
are_terms (suc more) (Penc a b) terms is = grind arith
are_terms (suc more) (Aead a b d) terms is = grind arith
are_terms (suc more) (Sign a b) terms is = grind arith
are_terms (suc more) (Mac a b) terms is = grind arith
are_terms (suc more) (Kdf a b d) terms is = grind arith
are_terms (suc more) (Hash a) terms is = grind arith

abbrev AreFields : List ℕ → ℕ → Term → List Term → Type 0
AreFields tag count term fields = (term ≡ tagged_tuple tag fields) × (length fields ≡ count)

fields_after : (tag : List ℕ) (more : ℕ) (first rest : Term) (fields : List Term) → first ≡ Lit tag → terms_in more rest ≡ Some fields
    → AreFields tag (suc more) (Pair first rest) fields
fields_after tag more first rest fields tagged is =
    let h = are_terms more rest fields is in
    rw h.is (ap (λ t. Pair t rest) tagged ∙ ap (Pair (Lit tag)) h.nested, grind (arith, h.number))

-- what is found are the fields of a tuple
are_fields : Equal → (tag : List ℕ) (count : ℕ) (term : Term) (fields : List Term) → fields_in tag count term ≡ Some fields → AreFields tag count term fields
are_fields equal tag zero term fields is = elim (cases_Bool (is_same term (Lit tag))) [
  | inl same ↦ let h = rw same at is in let e = equal term (Lit tag) same in (grind (arith, h, e), grind (arith, h))
  | inr other ↦ let h = rw other at is in absurd (grind (arith, h))
]
are_fields equal tag (suc more) (Pair first rest) fields is = elim (cases_Bool (is_same first (Lit tag))) [
  | inl same ↦ fields_after tag more first rest fields (equal first (Lit tag) same) (rw same at is)
  | inr other ↦ let h = rw other at is in absurd (grind (arith, h))
]
are_fields equal tag (suc more) (Lit a) fields is = grind arith
are_fields equal tag (suc more) (Name a) fields is = grind arith
are_fields equal tag (suc more) (Nonce a) fields is = grind arith
are_fields equal tag (suc more) (Pk a) fields is = grind arith
are_fields equal tag (suc more) (Vk a) fields is = grind arith
are_fields equal tag (suc more) (Penc a b) fields is = grind arith
are_fields equal tag (suc more) (Aead a b d) fields is = grind arith
are_fields equal tag (suc more) (Sign a b) fields is = grind arith
are_fields equal tag (suc more) (Mac a b) fields is = grind arith
are_fields equal tag (suc more) (Kdf a b d) fields is = grind arith
are_fields equal tag (suc more) (Hash a) fields is = grind arith

none_of : (found : Option (List Term)) → ((fields : List Term) → found ≡ Some fields → ⊥) → found ≡ None
none_of None none = refl
none_of (Some fields) none = absurd (none fields refl)

-- where there is no such tuple, none is found
pub fields_missing : Equal → (tag : List ℕ) (count : ℕ) (term : Term)
    → ((fields : List Term) → length fields ≡ count → term ≡ tagged_tuple tag fields → ⊥) → fields_in tag count term ≡ None
fields_missing equal tag count term none =
    none_of (fields_in tag count term) (λ fields is. let h = are_fields equal tag count term fields is in none fields h.1 h.0)
