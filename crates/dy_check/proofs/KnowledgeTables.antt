-- What the code keeps of a handler's knowledge has tables after each step where it had them before.
use Rattle.std.proofs.Common.{◌≡◌, ℕ, zero, suc, List, [], ◌∷◌, ◌++◌, length, Some, None, slice_get, slice_set, unwrap_or, refl, ap, subst}
use Rattle.dy_syntax.specs.Names.{Nm}
use Rattle.dy_types.specs.Claims.{Claim, ClaimOf, Known, KnownOf, unknown}
use Rattle.dy_types.specs.Facts.{Fact, FactOf}
use Rattle.dy_types.specs.Tables.{Table, ClaimsHaveTables, KnownHasTables, FactHasTable, FactsHaveTables}
use Rattle.dy_types.proofs.ClaimLaws.{ClaimsHaveTables-append}
use Rattle.dy_typing.specs.Names.{number_in, each_or_none}
use Rattle.dy_typing.specs.Knowledge.{Knowledge, KnowledgeOf, value_of, values_of, known_at, bind, with_claims, with_value, add_fact}
use Rattle.dy_check.specs.Tables.{ValuesHaveTables, KnowledgeHasTables}

-- values with tables, one list after the other
pub ValuesHaveTables-append : (values more : List Known) (kept others : List (KnownOf Table))
    → ValuesHaveTables values kept → ValuesHaveTables more others → ValuesHaveTables (values ++ more) (kept ++ others)
ValuesHaveTables-append [] more [] others h m = m
ValuesHaveTables-append [] more (one ∷ kept) others h m = absurd h
ValuesHaveTables-append (value ∷ values) more [] others h m = absurd h
ValuesHaveTables-append (value ∷ values) more (one ∷ kept) others h m = (h.0, ValuesHaveTables-append values more kept others h.1 m)

-- one of the values put in another's place
pub ValuesHaveTables-set : (values : List Known) (kept : List (KnownOf Table)) (number : ℕ) (more : Known) (known : KnownOf Table)
    → ValuesHaveTables values kept → KnownHasTables more known → ValuesHaveTables (slice_set values number more) (slice_set kept number known)
ValuesHaveTables-set [] [] number more known h m = h
ValuesHaveTables-set [] (one ∷ kept) number more known h m = absurd h
ValuesHaveTables-set (value ∷ values) [] number more known h m = absurd h
ValuesHaveTables-set (value ∷ values) (one ∷ kept) zero more known h m = (m, h.1)
ValuesHaveTables-set (value ∷ values) (one ∷ kept) (suc number) more known h m = (h.0, ValuesHaveTables-set values kept number more known h.1 m)

-- the value of a number that the code has
pub value_kept : (values : List Known) (kept : List (KnownOf Table)) (number : ℕ) (known : KnownOf Table)
    → ValuesHaveTables values kept → slice_get kept number ≡ Some known → KnownHasTables (unwrap_or (slice_get values number) unknown) known
value_kept [] [] number known h e = cc
value_kept [] (one ∷ kept) number known h e = absurd h
value_kept (value ∷ values) [] number known h e = absurd h
value_kept (value ∷ values) (one ∷ kept) zero known h e =
    let same : one ≡ known = cc in
    subst (λ (k : KnownOf Table). KnownHasTables value k) same h.0
value_kept (value ∷ values) (one ∷ kept) (suc number) known h e = value_kept values kept number known h.1 e

-- a number that is no value
pub no_value : (values : List Known) (kept : List (KnownOf Table)) (number : ℕ)
    → ValuesHaveTables values kept → slice_get kept number ≡ None → unwrap_or (slice_get values number) unknown ≡ unknown
no_value [] [] number h e = refl
no_value [] (one ∷ kept) number h e = absurd h
no_value (value ∷ values) [] number h e = absurd h
no_value (value ∷ values) (one ∷ kept) zero h e = cc
no_value (value ∷ values) (one ∷ kept) (suc number) h e = no_value values kept number h.1 e

pub FactsHaveTables-append : (facts more : List Fact) (kept others : List (FactOf Table))
    → FactsHaveTables facts kept → FactsHaveTables more others → FactsHaveTables (facts ++ more) (kept ++ others)
FactsHaveTables-append [] more [] others h m = m
FactsHaveTables-append [] more (one ∷ kept) others h m = absurd h
FactsHaveTables-append (fact ∷ facts) more [] others h m = absurd h
FactsHaveTables-append (fact ∷ facts) more (one ∷ kept) others h m = (h.0, FactsHaveTables-append facts more kept others h.1 m)

module _ (k : Knowledge) (kept : KnowledgeOf Table) (h : KnowledgeHasTables k kept) where
  -- the first variable that is one with a name is the same one
  pub same_value : (name : Nm) → value_of k name ≡ value_of kept name
  same_value name = let words = h.words in let first = h.first in rw (words, first) refl

  pub same_numbers : (names : List Nm) → each_or_none (number_in k.words) names ≡ each_or_none (number_in kept.words) names
  same_numbers names = let words = h.words in rw words refl

  pub same_given_values : (names : List Nm) → values_of k names ≡ values_of kept names
  same_given_values names = let words = h.words in let first = h.first in rw (words, first) refl

  pub known_at-tables : (number : ℕ) (known : KnownOf Table) → slice_get kept.values number ≡ Some known → KnownHasTables (known_at k number) known
  known_at-tables number known e = value_kept k.values kept.values number known h.values e

  pub known_at-unknown : (number : ℕ) → slice_get kept.values number ≡ None → known_at k number ≡ unknown
  known_at-unknown number e = no_value k.values kept.values number h.values e

  -- one more variable
  pub bind-tables : (word : List ℕ) (more : Known) (known : KnownOf Table) → KnownHasTables more known → KnowledgeHasTables (bind k word more) (bind kept word known)
  bind-tables word more known m = record {
    words = ap (λ (words : List (List ℕ)). words ++ word ∷ []) h.words;
    first = ap (λ (first : List ℕ). first ++ length first ∷ []) h.first;
    values = ValuesHaveTables-append k.values (more ∷ []) kept.values (known ∷ []) h.values (m, tt);
    facts = h.facts;
  }

  -- what is known of a value put in its place
  pub with_value-tables : (number : ℕ) (more : Known) (known : KnownOf Table) → KnownHasTables more known
      → KnowledgeHasTables (with_value k number more) (with_value kept number known)
  with_value-tables number more known m = record {
    words = h.words;
    first = h.first;
    values = ValuesHaveTables-set k.values kept.values number more known h.values m;
    facts = h.facts;
  }

  -- one more fact
  pub add_fact-tables : (fact : Fact) (one : FactOf Table) → FactHasTable fact one → KnowledgeHasTables (add_fact k fact) (add_fact kept one)
  add_fact-tables fact one f = record {
    words = h.words;
    first = h.first;
    values = h.values;
    facts = FactsHaveTables-append k.facts (fact ∷ []) kept.facts (one ∷ []) h.facts (f, tt);
  }

pub with_claims-tables : (known : Known) (kept : KnownOf Table) (said : List Claim) (others : List (ClaimOf Table))
    → KnownHasTables known kept → ClaimsHaveTables said others → KnownHasTables (with_claims known said) (with_claims kept others)
with_claims-tables known kept said others h m =
    record { hi = h.hi; lo = h.lo; claims = ClaimsHaveTables-append known.claims said kept.claims others h.claims m }
