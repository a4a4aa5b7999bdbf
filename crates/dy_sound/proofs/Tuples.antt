-- The fields of a tuple that is opened: they are those of the tuple, and what holds of the tuple's parts holds of them.
use Rattle.std.proofs.Common.{◌≡◌, ◌∙◌, ap, sym, subst, ℕ, zero, suc, Bool, true, false, Option, Some, None, List, [], ◌∷◌, length, Contains, refl, inl, inr, if◌then◌else◌, arith}
use Rattle.std.specs.Option.{option_map}
use Rattle.dy_term.specs.Terms.{Term, Lit, Name, Nonce, Pair, Pk, Vk, Penc, Aead, Sign, Mac, Kdf, Hash}
use Rattle.dy_term.specs.Sameness.{is_same}
use Rattle.dy_term.specs.Tuples.{right_pairs, tagged_tuple}
use Rattle.dy_eval.specs.Patterns.{terms_in, fields_in}
use Rattle.dy_sound.proofs.Lists.{Contains-none, Contains-later, Contains-cases}

-- Terms that are the same are equal.
abbrev pub SameAreEqual : Type 0
SameAreEqual = (a b : Term) → is_same a b ≡ true → a ≡ b

-- These are terms that are nested to the right, one more than the number.
record AreTerms (more : ℕ) (term : Term) (terms : List Term) : Type 0 where
  first : Term
  others : List Term
  is : terms ≡ first ∷ others
  nested : term ≡ right_pairs first others
  number : length others ≡ more

one_more : (more : ℕ) (term rest : Term) (found : Option (List Term)) (terms : List Term)
    → ((others : List Term) → found ≡ Some others → AreTerms more rest others)
    → option_map (λ others. term ∷ others) found ≡ Some terms → AreTerms (suc more) (Pair term rest) terms
one_more more term rest None terms are is = absurd cc
one_more more term rest (Some others) terms are is =
    let h = are others refl in
    record {
      first = term;
      others = others;
      is = cc;
      nested = ap (Pair term) h.nested ∙ ap (right_pairs term) (sym h.is);
      number = ap length h.is ∙ ap suc h.number;
    }

are_terms : (more : ℕ) (term : Term) (terms : List Term) → terms_in more term ≡ Some terms → AreTerms more term terms
are_terms zero term terms is = record { first = term; others = []; is = cc; nested = refl; number = refl }
are_terms (suc more) (Pair term rest) terms is = one_more more term rest (terms_in more rest) terms (are_terms more rest) is
are_terms (suc more) (Lit a) terms is = absurd cc
are_terms (suc more) (Name a) terms is = absurd cc
are_terms (suc more) (Nonce a) terms is = absurd cc
are_terms (suc more) (Pk a) terms is = absurd cc
are_terms (suc more) (Vk a) terms is = absurd cc
are_terms (suc more) (Penc a b) terms is = absurd cc
are_terms (suc more) (Aead a b d) terms is = absurd cc
are_terms (suc more) (Sign a b) terms is = absurd cc
are_terms (suc more) (Mac a b) terms is = absurd cc
are_terms (suc more) (Kdf a b d) terms is = absurd cc
are_terms (suc more) (Hash a) terms is = absurd cc

-- The term is a tuple of this tag and of these fields, so many of them.
pub record IsTuple (tag : List ℕ) (count : ℕ) (term : Term) (fields : List Term) : Type 0 where
  pub term_is : term ≡ tagged_tuple tag fields
  pub count_is : length fields ≡ count

fields_after : (tag : List ℕ) (more : ℕ) (first rest : Term) (fields : List Term) → first ≡ Lit tag → terms_in more rest ≡ Some fields
    → IsTuple tag (suc more) (Pair first rest) fields
fields_after tag more first rest fields tagged is =
    let h = are_terms more rest fields is in
    record {
      term_is = ap (λ t. Pair t rest) tagged ∙ ap (Pair (Lit tag)) h.nested ∙ ap (tagged_tuple tag) (sym h.is);
      count_is = ap length h.is ∙ ap suc h.number;
    }

-- what is there only by a test
some_if : {A : Type 0} (test : Bool) (x : Option A) (y : A) → (if test then x else None) ≡ Some y → (test ≡ true) × (x ≡ Some y)
some_if true x y is = (refl, is)
some_if false x y is = absurd cc

-- What is found are the fields of a tuple.
pub is_tuple : SameAreEqual → (tag : List ℕ) (count : ℕ) (term : Term) (fields : List Term) → fields_in tag count term ≡ Some fields → IsTuple tag count term fields
is_tuple equal tag zero term fields is =
    let parts = some_if (is_same term (Lit tag)) (Some []) fields is in
    let none : [] ≡ fields = let found = parts.1 in cc in
    record { term_is = equal term (Lit tag) parts.0 ∙ ap (tagged_tuple tag) none; count_is = ap length (sym none) }
is_tuple equal tag (suc more) (Pair first rest) fields is =
    let parts = some_if (is_same first (Lit tag)) (terms_in more rest) fields is in
    fields_after tag more first rest fields (equal first (Lit tag) parts.0) parts.1
is_tuple equal tag (suc more) (Lit a) fields is = absurd cc
is_tuple equal tag (suc more) (Name a) fields is = absurd cc
is_tuple equal tag (suc more) (Nonce a) fields is = absurd cc
is_tuple equal tag (suc more) (Pk a) fields is = absurd cc
is_tuple equal tag (suc more) (Vk a) fields is = absurd cc
is_tuple equal tag (suc more) (Penc a b) fields is = absurd cc
is_tuple equal tag (suc more) (Aead a b d) fields is = absurd cc
is_tuple equal tag (suc more) (Sign a b) fields is = absurd cc
is_tuple equal tag (suc more) (Mac a b) fields is = absurd cc
is_tuple equal tag (suc more) (Kdf a b d) fields is = absurd cc
is_tuple equal tag (suc more) (Hash a) fields is = absurd cc

-- What a pair hands to its two parts, a tuple hands to all of its.
pub in_pairs : (P : Term → Type 0) → ((a b : Term) → P (Pair a b) → P a × P b) → (first : Term) (more : List Term) → P (right_pairs first more)
    → (term : Term) → Contains (first ∷ more) term → P term
in_pairs P parts first [] whole term h = elim (Contains-cases first [] term h) [
  | inl is ↦ subst P is whole
  | inr none ↦ absurd (Contains-none term none)
]
in_pairs P parts first (next ∷ more) whole term h = elim (Contains-cases first (next ∷ more) term h) [
  | inl is ↦ subst P is (parts first (right_pairs next more) whole).0
  | inr later ↦ in_pairs P parts next more (parts first (right_pairs next more) whole).1 term later
]

pub in_tuple : (P : Term → Type 0) → ((a b : Term) → P (Pair a b) → P a × P b) → (tag : List ℕ) (fields : List Term) → P (tagged_tuple tag fields)
    → (field : Term) → Contains fields field → P field
in_tuple P parts tag fields whole field h = in_pairs P parts (Lit tag) fields whole field (Contains-later (Lit tag) fields field h)

-- what has its place in a pair has it in the whole
same_pairs : (first other : Term) (more rest : List Term) → length more ≡ length rest → right_pairs first more ≡ right_pairs other rest
    → (first ∷ more) ≡ (other ∷ rest)
same_pairs first other [] [] count is = ap (λ t. t ∷ []) is
same_pairs first other [] (b ∷ rest) count is = absurd (omega (arith, count))
same_pairs first other (a ∷ more) [] count is = absurd (omega (arith, count))
same_pairs first other (a ∷ more) (b ∷ rest) count is =
    let heads : first ≡ other = cc in
    let tails : right_pairs a more ≡ right_pairs b rest = cc in
    ap (λ t. t ∷ a ∷ more) heads ∙ ap (λ ts. other ∷ ts) (same_pairs a b more rest (omega (arith, count)) tails)

-- A tuple has one tag.
pub same_tag : (tag other : List ℕ) (fields others : List Term) → tagged_tuple tag fields ≡ tagged_tuple other others → tag ≡ other
same_tag tag other [] [] is = cc
same_tag tag other [] (b ∷ others) is = absurd cc
same_tag tag other (a ∷ fields) [] is = absurd cc
same_tag tag other (a ∷ fields) (b ∷ others) is = cc

-- Of so many fields it has but one list.
pub same_fields : (tag other : List ℕ) (fields others : List Term) → length fields ≡ length others → tagged_tuple tag fields ≡ tagged_tuple other others → fields ≡ others
same_fields tag other fields others count is = let whole = same_pairs (Lit tag) (Lit other) fields others count is in cc
