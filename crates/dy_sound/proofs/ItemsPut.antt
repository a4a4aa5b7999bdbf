-- What an item is that a statement puts, and what holds in the trace with an entry more.
use Rattle.std.proofs.Common.{◌≡◌, ℕ, Bool, true, false, List, [], ◌∷◌, ◌++◌, length, Contains, Option, Some, None, if◌then◌else◌, refl, sym, ap, subst, ◌∙◌}
use Rattle.std.specs.Option.{option_and_then}
use Rattle.dy_term.specs.Terms.{Term}
use Rattle.dy_label.specs.Words.{Choice}
use Rattle.dy_syntax.specs.Files.{Decl}
use Rattle.dy_typing.specs.Knowledge.{Knowledge}
use Rattle.dy_entry.specs.Entries.{Entry}
use Rattle.dy_eval.specs.declared.written.Written.{Written}
use Rattle.dy_eval.specs.declared.items.Item.{Item}
use Rattle.dy_eval.specs.Doings.{Puts, Writes, Fails}
use Rattle.dy_eval.specs.Effects.{puts, puts_all, writes}
use Rattle.dy_eval.specs.Names.{Names, write}
use Rattle.dy_eval.specs.Runs.{nonce_due}
use Rattle.dy_eval.specs.Values.{if_small, are_small}
use Rattle.dy_sound.specs.Valid.{IsValid}
use Rattle.dy_sound.specs.Knowledge.{Holds}
use Rattle.dy_sound.specs.LawsBelow.{LawsBelow}
use Rattle.dy_sound.proofs.LongerValid.{valid_is_made}
use Rattle.dy_sound.proofs.LongerKnowledge.{knowledge_still}
use Rattle.dy_sound.proofs.OneMore.{numbered_made}
use Rattle.dy_sound.proofs.SameStatement.{write_nothing}

-- an item of one value
pub record IsPut (make : Term → Item) (found : Option Term) (item : Item) (binds : Option (List ℕ)) : Type 0 where
  pub value : Term
  pub value_is : found ≡ Some value
  pub item_is : make value ≡ item
  pub binds_none : None ≡ binds

pub puts_is : (make : Term → Item) (found : Option Term) (item : Item) (binds : Option (List ℕ)) → puts make found ≡ Puts item binds → IsPut make found item binds
puts_is make None item binds is = absurd cc
puts_is make (Some value) item binds is = record { value = value; value_is = refl; item_is = cc; binds_none = cc }

all_put : (b : Bool) (made item : Item) (binds : Option (List ℕ)) → (if b then Puts made None else Fails) ≡ Puts item binds → (made ≡ item) × (None ≡ binds)
all_put true made item binds is = (cc, cc)
all_put false made item binds is = absurd cc

-- an item of several values
pub puts_all_is : (make : List Term → Item) (values : List Term) (item : Item) (binds : Option (List ℕ)) → puts_all make values ≡ Puts item binds
    → (make values ≡ item) × (None ≡ binds)
puts_all_is make values item binds is = all_put (are_small values) (make values) item binds is

-- what is written in place of a word
pub writes_is : (word : List ℕ) (found : Option Term) (more : List Written) → writes word found ≡ Writes more
    → (value : Term) × (found ≡ Some value) × (record { word = word; bytes = value } ∷ [] ≡ more)
writes_is word None more is = absurd cc
writes_is word (Some value) more is = (value, refl, cc)

small_is : (b : Bool) (term value : Term) → (if b then Some term else None) ≡ Some value → term ≡ value
small_is true term value is = cc
small_is false term value is = absurd cc

-- A value that has few nodes is the value itself.
pub if_small_is : (term value : Term) → if_small term ≡ Some value → term ≡ value
if_small_is term value is = small_is _ term value is

-- What comes of a value, where there is one.
pub and_then_is : {A B : Type 0} (f : A → Option B) (found : Option A) (y : B) → option_and_then f found ≡ Some y → (x : A) × (found ≡ Some x) × (f x ≡ Some y)
and_then_is f None y is = absurd cc
and_then_is f (Some x) y is = (x, refl, is)

-- Where no nonce is due, nothing more is written.
pub nothing_due : (names : Names) (binds : Option (List ℕ)) (index : ℕ) → None ≡ binds → write names (nonce_due binds index) ≡ names
nothing_due names binds index none = ap (λ (b : Option (List ℕ)). write names (nonce_due b index)) (sym none) ∙ write_nothing names

module _ (decls : List Decl) (T : List Entry) (names : Names) (valid : (written : Written) → Contains names.written written → IsValid decls T written.bytes) where
  -- What is known holds still with an entry more, where nothing more is written.
  pub holds_still : LawsBelow → (choice : Choice) (k : Knowledge) (e : Entry) (binds : Option (List ℕ)) → None ≡ binds
      → Holds decls T choice names k → Holds decls (T ++ e ∷ []) choice (write names (nonce_due binds (length T))) k
  holds_still below choice k e binds none h =
      subst (λ (b : Option (List ℕ)). Holds decls (T ++ e ∷ []) choice (write names (nonce_due b (length T))) k) none
      (subst (λ (n : Names). Holds decls (T ++ e ∷ []) choice n k) (sym (write_nothing names))
      (knowledge_still below decls T (e ∷ []) choice names k (numbered_made T names (λ w stands. valid_is_made decls T w.bytes (valid w stands))) h))
