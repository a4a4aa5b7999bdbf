-- What the fields of a state give, one after another.
use Rattle.std.proofs.Common.{◌≡◌, ℕ, zero, suc, ◌+◌, ◌<◌, ◌≤◌, List, [], ◌∷◌, ◌++◌, length, Some, refl, ap, sym, ◌∙◌, subst, arith, length-append}
use Rattle.std.specs.List.{slice_get, All}
use Rattle.std.specs.Prelude.{Result, Ok, Err, IfOk}
use Rattle.std.proofs.lemmas.List.Elements.{All-nil, All-cons}
use Rattle.dy_term.specs.Terms.{Term}
use Rattle.dy_chains.specs.declared.rules.Rule.{Rule}
use Rattle.dy_chains.specs.Rules.{IsBelow}
use Rattle.dy_chains.proofs.GrownChains.{below_more}
use Rattle.dy_derive.specs.declared.deductions.Deductions.{Deductions}
use Rattle.dy_derive.specs.declared.given.Given.{Given}
use Rattle.dy_derive.specs.declared.reasons.Reason.{Reason}
use Rattle.dy_derive.specs.declared.reasons.Reason.TheVariants as reasons
use Rattle.dy_derive.specs.Facts.{Fact, Inference, inferences_of_fields}
use Rattle.dy_derive.specs.Nodes.{IsTermAt}
use Rattle.dy_derive.specs.MirrorRules.{StandForAll}
use Rattle.dy_derive.specs.MirrorGiven.{Gives}
use Rattle.dy_derive.specs.MirrorGivenRules.{field_rule, field_rules, places_of}
use Rattle.dy_derive.specs.MirrorKnowledge.{Grows, AreAny, AreAt}
use Rattle.dy_derive.proofs.AddedInferences.{premises_longer, all_longer, all_both}
use Rattle.dy_derive.proofs.GrownDeductions.{grows_none, grows_after}
use Rattle.dy_derive.proofs.GivenFacts.{grows_weaker, field_stands, fields_more}

-- the reasons of the rules of a field
abbrev pub field_reasons : ℕ → ℕ → List Reason
field_reasons index number = reasons.Field index number ∷ reasons.Field index number ∷ reasons.Field index number ∷ []

-- The rules of so many fields, whatever the deductions were when their places were interned.
pub record AreGiven (old now : Deductions) (places : List ℕ) (rules : List Rule) (whys : List Reason) (index number : ℕ) (done : List Term) : Type 0 where
  pub counted : number ≡ 1 + length done
  pub below : All (IsBelow (length now.nodes.keys)) rules
  pub any : Grows old now AreAny
  pub stand : (start : Deductions) (p : List ℕ) (s v : ℕ) → Grows start old (AreAt places (places_of p s v))
      → Grows start now (λ facts. AreAt places (places_of p s v) facts × StandForAll facts rules whys (inferences_of_fields index p s v 1 done))

no_fields : (old : Deductions) (places : List ℕ) (index : ℕ) → AreGiven old old places [] [] index 1 []
no_fields old places index = record {
  counted = refl;
  below = All-nil (IsBelow (length old.nodes.keys));
  any = grows_none old AreAny (λ facts T deduced. tt);
  stand = λ start p s v grown.
      grows_weaker start old (AreAt places (places_of p s v)) (λ facts. AreAt places (places_of p s v) facts × StandForAll facts [] [] []) grown
      (λ facts are. (are, tt));
}

pub none_given : (old : Deductions) (places : List ℕ) (rules : List Rule) (whys : List Reason) (index : ℕ) → rules ≡ [] → whys ≡ []
    → AreGiven old old places rules whys index 1 []
none_given old places rules whys index none no_whys =
    subst (λ (ws : List Reason). AreGiven old old places rules ws index 1 []) (sym no_whys)
    (subst (λ (rs : List Rule). AreGiven old old places rs [] index 1 []) (sym none) (no_fields old places index))

-- the rules of one field, by places that are three
field_rules_stand : (facts : List Fact) (places : List ℕ) (field index number : ℕ) (p : List ℕ) (s v : ℕ) (term : Term)
    → AreAt places (places_of p s v) facts → IsTermAt facts field term
    → StandForAll facts (field_rules places field) (field_reasons index number) (inferences_of_fields index p s v number (term ∷ []))
field_rules_stand facts (a ∷ b ∷ c ∷ []) field index number p s v term are at = field_stands facts a b c field index number p s v term are at
field_rules_stand facts [] field index number p s v term are at = absurd (cc)
field_rules_stand facts (a ∷ []) field index number p s v term are at = absurd (cc)
field_rules_stand facts (a ∷ b ∷ []) field index number p s v term are at = absurd (cc)
field_rules_stand facts (a ∷ b ∷ c ∷ d ∷ more) field index number p s v term are at = absurd (cc)

-- they speak of the places and the field
field_rule_below : (count place field : ℕ) → place < count → field < count → IsBelow count (field_rule place field)
field_rule_below count place field one two = record { conclusion = two; premises = only count place one }
  where
    only : (n a : ℕ) → a < n → (k premise : ℕ) → slice_get (a ∷ []) k ≡ Some premise → premise < n
    only n a within zero premise at = let same : a ≡ premise = cc in omega (arith, within, same)
    only n a within (suc k) premise at = absurd (cc)

field_rules_below : (count : ℕ) (places : List ℕ) (field : ℕ) → All (λ place. place < count) places → field < count → All (IsBelow count) (field_rules places field)
field_rules_below count [] field all within = All-nil (IsBelow count)
field_rules_below count (place ∷ places) field all within =
    All-cons (IsBelow count) (field_rule place field) (field_rules places field) (field_rule_below count place field (all 0 0 (omega arith)) within)
    (field_rules_below count places field (λ k d inside. all (suc k) d (omega (arith, inside))) within)

module _ (old now new : Deductions) (places : List ℕ) (rules : List Rule) (whys : List Reason) (index number : ℕ) (done : List Term)
    (given : AreGiven old now places rules whys index number done) where
  -- no fact is lost by what is interned next
  pub still_any : (AreSuch : List Fact → Type 0) → Grows now new AreSuch → Grows old new AreAny
  still_any AreSuch grown = grows_after old now new AreAny AreSuch AreAny given.any grown (λ facts more any such. tt)

  -- with one field more
  pub one_more_given : (field : ℕ) (term : Term) → Grows now new (λ facts. IsTermAt facts field term) → field < length new.nodes.keys
      → All (λ place. place < length old.nodes.keys) places
      → AreGiven old new places (rules ++ field_rules places field) (whys ++ field_reasons index number) index (number + 1) (done ++ term ∷ [])
  one_more_given field term grown within placed =
      let any = still_any (λ facts. IsTermAt facts field term) grown in
      let later : length old.nodes.keys ≤ length new.nodes.keys = omega (arith, ap length any.nodes.1, length-append old.nodes.keys any.nodes.0) in
      let count : length new.nodes.keys ≡ length now.nodes.keys + length grown.nodes.0 = ap length grown.nodes.1 ∙ length-append now.nodes.keys grown.nodes.0 in
      let mine : All (IsBelow (length new.nodes.keys)) (field_rules places field) =
      field_rules_below (length new.nodes.keys) places field (λ k d inside. omega (arith, placed k d inside, later)) within in
      record {
        counted = ap (λ n. n + 1) given.counted ∙ omega (arith, length-append done (term ∷ []));
        below = subst (λ (n : ℕ). All (IsBelow n) (rules ++ field_rules places field)) (sym count)
            (below_more (length now.nodes.keys) (length grown.nodes.0) rules (field_rules places field) given.below
            (subst (λ (n : ℕ). All (IsBelow n) (field_rules places field)) count mine));
        any = any;
        stand = λ start p s v at_start.
            let so_far = inferences_of_fields index p s v 1 done in
            let last = inferences_of_fields index p s v number (term ∷ []) in
            let all : so_far ++ last ≡ inferences_of_fields index p s v 1 (done ++ term ∷ []) =
            ap (λ n. so_far ++ inferences_of_fields index p s v n (term ∷ [])) given.counted ∙ sym (fields_more index p s v 1 done term) in
            grows_after start now new (λ facts. AreAt places (places_of p s v) facts × StandForAll facts rules whys so_far) (λ facts. IsTermAt facts field term)
            (λ facts. AreAt places (places_of p s v) facts × StandForAll facts (rules ++ field_rules places field) (whys ++ field_reasons index number)
            (inferences_of_fields index p s v 1 (done ++ term ∷ []))) (given.stand start p s v at_start) grown
            (λ facts more both at.
            let are = premises_longer facts more places (places_of p s v) both.0 in (
              are,
              subst (λ (is : List Inference). StandForAll (facts ++ more) (rules ++ field_rules places field) (whys ++ field_reasons index number) is) all
                  (all_both (facts ++ more) rules (field_rules places field) whys (field_reasons index number) so_far last
                  (all_longer facts more rules whys so_far both.1) (field_rules_stand (facts ++ more) places field index number p s v term are at)),
            ));
      }

  -- the same, as the code has it
  pub then_given : (field : ℕ) (term : Term) → Grows now new (λ facts. IsTermAt facts field term) → field < length new.nodes.keys
      → All (λ place. place < length old.nodes.keys) places → (all : List Rule) (all_whys : List Reason) (next : ℕ) (then : List Term)
      → all ≡ rules ++ field_rules places field → all_whys ≡ whys ++ field_reasons index number → next ≡ number + 1 → then ≡ done ++ term ∷ []
      → AreGiven old new places all all_whys index next then
  then_given field term grown within placed all all_whys next then rules_are whys_are next_is then_is =
      let one = one_more_given field term grown within placed in
      let more = subst (λ (ts : List Term). AreGiven old new places (rules ++ field_rules places field) (whys ++ field_reasons index number) index (number + 1) ts) (sym then_is) one in
      let counted = subst (λ (n : ℕ). AreGiven old new places (rules ++ field_rules places field) (whys ++ field_reasons index number) index n then) (sym next_is) more in
      let reasoned = subst (λ (ws : List Reason). AreGiven old new places (rules ++ field_rules places field) ws index next then) (sym whys_are) counted in
      subst (λ (rs : List Rule). AreGiven old new places rs all_whys index next then) (sym rules_are) reasoned

-- All fields are given.
pub all_given : (old now : Deductions) (places : List ℕ) (rules : List Rule) (whys : List Reason) (index number : ℕ) (done fields : List Term)
    → done ≡ fields → AreGiven old now places rules whys index number done → (start : Deductions) (p : List ℕ) (s v : ℕ)
    → Grows start old (AreAt places (places_of p s v)) → Grows start now (λ facts. StandForAll facts rules whys (inferences_of_fields index p s v 1 fields))
all_given old now places rules whys index number done fields same given start p s v grown =
    subst (λ (ts : List Term). Grows start now (λ facts. StandForAll facts rules whys (inferences_of_fields index p s v 1 ts))) same
    (grows_weaker start now (λ facts. AreAt places (places_of p s v) facts × StandForAll facts rules whys (inferences_of_fields index p s v 1 done))
    (λ facts. StandForAll facts rules whys (inferences_of_fields index p s v 1 done)) (given.stand start p s v grown) (λ facts both. both.1))

-- what a state gives, where its places were interned first
pub fields_give : {E : Type 0} (result : Result Given E) (old mid new : Deductions) (places : List ℕ) (index : ℕ) (p : List ℕ) (s v : ℕ) (fields : List Term)
    → Grows old mid (AreAt places (places_of p s v))
    → IfOk result (λ made. (start : Deductions) (q : List ℕ) (t w : ℕ) → Grows start mid (AreAt places (places_of q t w))
    → Grows start new (Gives made (inferences_of_fields index q t w 1 fields)))
    → IfOk result (λ made. Grows old new (Gives made (inferences_of_fields index p s v 1 fields)))
fields_give (Ok made) old mid new places index p s v fields interned gives = gives old p s v interned
fields_give (Err error) old mid new places index p s v fields interned gives = tt
