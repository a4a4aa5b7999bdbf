-- Tuples by their fields.
use Rattle.std.proofs.Common.{◌≡◌, ℕ, zero, suc, ◌+◌, ◌-◌, ◌<◌, ◌≤◌, true, false, ◌&&◌, List, [], ◌∷◌, length, Some, None, refl, sym, ap, ◌∙◌, arith}
use Rattle.std.proofs.lemmas.Bool.{and_parts, and_from}
use Rattle.dy_term.specs.Terms.{Term, Lit, Name, Nonce, Pair, Pk, Vk, Penc, Aead, Sign, Mac, Kdf, Hash}
use Rattle.dy_term.specs.Sameness.{is_same}
use Rattle.dy_term.specs.Tuples.{right_pairs, tagged_tuple}
use Rattle.dy_flat.specs.Parts as parts
use Rattle.dy_flat.specs.MirrorTuples.{parts_of_pairs, has_pairs, is_tuple}

-- two terms are the same only where they are equal
abbrev pub Equals : Type 0
Equals = (a b : Term) → is_same a b ≡ true → a ≡ b

abbrev pub Itself : Type 0
Itself = (a : Term) → is_same a a ≡ true

-- terms that were nested
record Nests (count : ℕ) (term : Term) : Type 0 where
  pub first : Term
  pub more : List Term
  pub are : parts_of_pairs (suc count) term ≡ first ∷ more
  pub long : length more ≡ count
  pub nest : term ≡ right_pairs first more

nests : (count : ℕ) (term : Term) → has_pairs count term ≡ true → Nests count term
nests zero term deep = record { first = term; more = []; are = refl; long = refl; nest = refl }
nests (suc count) (Pair a rest) deep =
    let inner = nests count rest deep in
    record {
      first = a;
      more = inner.first ∷ inner.more;
      are = ap (λ (xs : List Term). a ∷ xs) inner.are;
      long = ap suc inner.long;
      nest = ap (Pair a) inner.nest;
    }
nests (suc count) (Lit text) deep = absurd (cc)
nests (suc count) (Name principal) deep = absurd (cc)
nests (suc count) (Nonce index) deep = absurd (cc)
nests (suc count) (Pk a) deep = absurd (cc)
nests (suc count) (Vk a) deep = absurd (cc)
nests (suc count) (Penc a b) deep = absurd (cc)
nests (suc count) (Aead a b c) deep = absurd (cc)
nests (suc count) (Sign a b) deep = absurd (cc)
nests (suc count) (Mac a b) deep = absurd (cc)
nests (suc count) (Kdf a c b) deep = absurd (cc)
nests (suc count) (Hash a) deep = absurd (cc)

has_pairs-right_pairs : (first : Term) (more : List Term) → has_pairs (length more) (right_pairs first more) ≡ true
has_pairs-right_pairs first [] = refl
has_pairs-right_pairs first (next ∷ more) = has_pairs-right_pairs next more

-- The term is the tuple of this tag and of these fields, which are so many.
pub record IsTupleOf (tag : List ℕ) (count : ℕ) (term : Term) (fields : List Term) : Type 0 where
  pub is : term ≡ tagged_tuple tag fields
  pub many : length fields ≡ count

alone : Equals → (tag : List ℕ) (term rest : Term) → is_tuple tag 0 term ≡ true → IsTupleOf tag 0 term (parts_of_pairs 0 rest)
alone equals tag term rest same = record { is = equals term (Lit tag) same; many = refl }

with_fields : Equals → (tag : List ℕ) (more : ℕ) (prefix rest : Term) → is_same prefix (Lit tag) && has_pairs more rest ≡ true → IsTupleOf tag (suc more) (Pair prefix rest) (parts_of_pairs (suc more) rest)
with_fields equals tag more prefix rest is =
    let both = and_parts (is_same prefix (Lit tag)) (has_pairs more rest) is in
    let inner = nests more rest both.1 in
    record {
      is = ap (λ (t : Term). Pair t rest) (equals prefix (Lit tag) both.0) ∙ ap (Pair (Lit tag)) inner.nest ∙ ap (tagged_tuple tag) (sym inner.are);
      many = ap length inner.are ∙ ap suc inner.long;
    }

pub tuple_alone : Equals → (tag : List ℕ) (count : ℕ) (term rest : Term) → count ≡ 0 → is_tuple tag count term ≡ true → IsTupleOf tag count term (parts_of_pairs 0 rest)
tuple_alone equals tag zero term rest none is = alone equals tag term rest is
tuple_alone equals tag (suc count) term rest none is = absurd (omega (arith, none))

pub tuple_with : Equals → (tag : List ℕ) (count : ℕ) (term rest : Term) → (count ≡ 0 → ⊥) → is_tuple tag count term ≡ true → Some rest ≡ parts.second term → IsTupleOf tag count term (parts_of_pairs count rest)
tuple_with equals tag zero term rest some is second = absurd (some refl)
tuple_with equals tag (suc more) (Pair prefix back) rest some is second = let same : back ≡ rest = cc in rw (← same) (with_fields equals tag more prefix back is)
tuple_with equals tag (suc more) (Lit text) rest some is second = absurd (cc)
tuple_with equals tag (suc more) (Name principal) rest some is second = absurd (cc)
tuple_with equals tag (suc more) (Nonce index) rest some is second = absurd (cc)
tuple_with equals tag (suc more) (Pk a) rest some is second = absurd (cc)
tuple_with equals tag (suc more) (Vk a) rest some is second = absurd (cc)
tuple_with equals tag (suc more) (Penc a b) rest some is second = absurd (cc)
tuple_with equals tag (suc more) (Aead a b c) rest some is second = absurd (cc)
tuple_with equals tag (suc more) (Sign a b) rest some is second = absurd (cc)
tuple_with equals tag (suc more) (Mac a b) rest some is second = absurd (cc)
tuple_with equals tag (suc more) (Kdf a c b) rest some is second = absurd (cc)
tuple_with equals tag (suc more) (Hash a) rest some is second = absurd (cc)

tagged_is : Itself → (tag : List ℕ) (fields : List Term) → is_tuple tag (length fields) (tagged_tuple tag fields) ≡ true
tagged_is itself tag [] = itself (Lit tag)
tagged_is itself tag (first ∷ more) = and_from _ _ (itself (Lit tag)) (has_pairs-right_pairs first more)

pub no_tuple : Itself → (tag : List ℕ) (count : ℕ) (term : Term) → is_tuple tag count term ≡ false → (fields : List Term) → length fields ≡ count → term ≡ tagged_tuple tag fields → ⊥
no_tuple itself tag count term none fields many is =
    let yes : is_tuple tag count term ≡ true = rw (is, ← many) (tagged_is itself tag fields) in
    cc

-- a tuple that has fields has a second part
pub tuple_second : (tag : List ℕ) (count : ℕ) (term : Term) → (count ≡ 0 → ⊥) → is_tuple tag count term ≡ true → None ≡ parts.second term → ⊥
tuple_second tag zero term some is none = some refl
tuple_second tag (suc more) (Pair prefix back) some is none = cc
tuple_second tag (suc more) (Lit text) some is none = cc
tuple_second tag (suc more) (Name principal) some is none = cc
tuple_second tag (suc more) (Nonce index) some is none = cc
tuple_second tag (suc more) (Pk a) some is none = cc
tuple_second tag (suc more) (Vk a) some is none = cc
tuple_second tag (suc more) (Penc a b) some is none = cc
tuple_second tag (suc more) (Aead a b c) some is none = cc
tuple_second tag (suc more) (Sign a b) some is none = cc
tuple_second tag (suc more) (Mac a b) some is none = cc
tuple_second tag (suc more) (Kdf a c b) some is none = cc
tuple_second tag (suc more) (Hash a) some is none = cc

-- ---- pair by pair

no_second : (count : ℕ) (term : Term) → None ≡ parts.second term → has_pairs (suc count) term ≡ false
no_second count (Pair a b) none = absurd (cc)
no_second count (Lit text) none = refl
no_second count (Name principal) none = refl
no_second count (Nonce index) none = refl
no_second count (Pk a) none = refl
no_second count (Vk a) none = refl
no_second count (Penc a b) none = refl
no_second count (Aead a b c) none = refl
no_second count (Sign a b) none = refl
no_second count (Mac a b) none = refl
no_second count (Kdf a c b) none = refl
no_second count (Hash a) none = refl

a_second : (count : ℕ) (term rest : Term) → Some rest ≡ parts.second term → has_pairs (suc count) term ≡ has_pairs count rest
a_second count (Pair a b) rest some = let same : b ≡ rest = cc in ap (has_pairs count) same
a_second count (Lit text) rest some = absurd (cc)
a_second count (Name principal) rest some = absurd (cc)
a_second count (Nonce index) rest some = absurd (cc)
a_second count (Pk a) rest some = absurd (cc)
a_second count (Vk a) rest some = absurd (cc)
a_second count (Penc a b) rest some = absurd (cc)
a_second count (Aead a b c) rest some = absurd (cc)
a_second count (Sign a b) rest some = absurd (cc)
a_second count (Mac a b) rest some = absurd (cc)
a_second count (Kdf a c b) rest some = absurd (cc)
a_second count (Hash a) rest some = absurd (cc)

left_is : (count passed : ℕ) → passed < count → count - passed ≡ suc (count - (passed + 1))
left_is count passed less = omega arith

pub pairs_none : (count passed : ℕ) (term : Term) → passed < count → None ≡ parts.second term → has_pairs (count - passed) term ≡ false
pairs_none count passed term less none = ap (λ n. has_pairs n term) (left_is count passed less) ∙ no_second (count - (passed + 1)) term none

pub pairs_some : (count passed : ℕ) (term rest : Term) → passed < count → Some rest ≡ parts.second term → has_pairs (count - passed) term ≡ has_pairs (count - (passed + 1)) rest
pairs_some count passed term rest less some = ap (λ n. has_pairs n term) (left_is count passed less) ∙ a_second (count - (passed + 1)) term rest some

pub pairs_done : (count passed : ℕ) (term : Term) → count ≤ passed → has_pairs (count - passed) term ≡ true
pairs_done count passed term over = let none : count - passed ≡ 0 = omega arith in ap (λ n. has_pairs n term) none
