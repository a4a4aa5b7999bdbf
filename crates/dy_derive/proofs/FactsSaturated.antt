-- The facts that follow are saturated, and all that the trace gives follows.
use Rattle.std.proofs.Common.{◌≡◌, ℕ, zero, suc, ◌+◌, ◌==◌, ◌&&◌, ◌⊎◌, true, List, [], ◌∷◌, Some, None, inl, inr, refl, sym, subst, arith, length, map, ap, ◌∙◌}
use Rattle.std.specs.List.{slice_get, Contains, cons_option}
use Rattle.std.specs.Str.{bytes_eq}
use Rattle.std.proofs.lemmas.Bool.{and_parts, eqb-true}
use Rattle.std.proofs.lemmas.Option.{get_or_from_slice_get, slice_get-get_or}
use Rattle.std.proofs.lemmas.Slice.Eq.{bytes_eq-Decides}
use Rattle.std.proofs.lemmas.List.Folds.{Any-from_list_any}
use Rattle.dy_term.specs.Terms as terms
use Rattle.dy_term.specs.Terms.{Term}
use Rattle.dy_flat.specs.Parts.{parts_of}
use Rattle.dy_label.specs.Labels.{Place, Principal, Session, Version, covers}
use Rattle.dy_entry.specs.Entries as entries
use Rattle.dy_entry.specs.Entries.{Entry}
use Rattle.dy_entry.specs.LookUps.{corruption_of, corruptions, is_covered}
use Rattle.dy_chains.specs.declared.rules.Rule.{Rule}
use Rattle.dy_chains.specs.declared.logs.Step.{Step}
use Rattle.dy_chains.specs.Logs.{IsLogged, IsComplete}
use Rattle.dy_derive.specs.declared.nodes.Node.{Node}
use Rattle.dy_derive.specs.declared.nodes.Node.TheVariants as code
use Rattle.dy_derive.specs.declared.reasons.Reason.{Reason}
use Rattle.dy_derive.specs.declared.reasons.Reason.TheVariants as reasons
use Rattle.dy_derive.specs.Facts.{Fact, Derived, Corrupted, Inference, inferences_of_term, inferences_of_fields, inferences_of_entry, given_with}
use Rattle.dy_derive.specs.Nodes.{term_in, term_at, numbers_of, fact_of, IsTable}
use Rattle.dy_derive.specs.Rules.{HasRule, HasInferences}
use Rattle.dy_derive.specs.Saturation.{IsMadeOfParts, IsSaturated, IsGivenAll, IsPart, IsHad}

inside : {A : Type 0} (a b : A) → Some a ≡ Some b → a ≡ b
inside a b same = cc

-- a list as long as another has something wherever the other has
pub also_there : {A B : Type 0} (xs : List A) (ys : List B) (k : ℕ) (x : A) → length ys ≡ length xs → slice_get xs k ≡ Some x → (y : B) × (slice_get ys k ≡ Some y)
also_there [] ys k x same at = absurd cc
also_there (x ∷ xs) [] k z same at = absurd (omega (arith, same))
also_there (x ∷ xs) (y ∷ ys) zero z same at = (y, refl)
also_there (x ∷ xs) (y ∷ ys) (suc k) z same at = also_there xs ys k z (omega (arith, same)) at

-- what a function gives at a place it gives of what stands there
from_map : {A B : Type 0} (f : A → B) (xs : List A) (k : ℕ) (y : B) → slice_get (map f xs) k ≡ Some y → (x : A) × (slice_get xs k ≡ Some x) × (f x ≡ y)
from_map f [] k y at = absurd cc
from_map f (x ∷ xs) zero y at = (x, refl, inside (f x) y at)
from_map f (x ∷ xs) (suc k) y at = from_map f xs k y at

-- the parts of what a node says are those of its numbers
pub parts_said : (facts : List Fact) (node : Node) → parts_of (term_in (fact_of facts node)) ≡ map (term_at facts) (numbers_of node)
parts_said facts (code.Lit text) = refl
parts_said facts (code.Name principal) = refl
parts_said facts (code.Nonce index) = refl
parts_said facts (code.Pair first second) = refl
parts_said facts (code.Pk key) = refl
parts_said facts (code.Vk key) = refl
parts_said facts (code.Penc to message) = refl
parts_said facts (code.Aead key message associated) = refl
parts_said facts (code.Sign key message) = refl
parts_said facts (code.Mac key message) = refl
parts_said facts (code.Kdf key context input) = refl
parts_said facts (code.Hash message) = refl
parts_said facts (code.Principal principal) = refl
parts_said facts (code.Session principal session) = refl
parts_said facts (code.Version principal session version) = refl

-- ---- corruptions

is_corrupt : (e : Entry) (place : Place) → corruption_of e ≡ Some place → (step : ℕ) × (e ≡ entries.Corrupt step place)
is_corrupt (entries.Corrupt step other) place is = (step, ap (entries.Corrupt step) (inside other place is))
is_corrupt e place is = absurd cc

-- the trace has a corruption of the place at some index
abbrev HasCorrupt : List Entry → Place → Type 0
HasCorrupt U place = (index step : ℕ) × (slice_get U index ≡ Some (entries.Corrupt step place))

corrupt_later : (e : Entry) (U : List Entry) (place : Place) → HasCorrupt U place → HasCorrupt (e ∷ U) place
corrupt_later e U place later = (suc later.0, later.1, later.2)

corrupt_here : (e : Entry) (U : List Entry) (place other : Place) → corruption_of e ≡ Some other → (Contains (corruptions U) place → HasCorrupt U place)
    → Contains (other ∷ corruptions U) place → HasCorrupt (e ∷ U) place
corrupt_here e U place other takes rest (zero, below, is) =
    let entry = is_corrupt e place (takes ∙ ap Some is) in (0, entry.0, ap Some entry.1)
corrupt_here e U place other takes rest (suc k, below, is) = corrupt_later e U place (rest (k, omega arith, is))

-- a corruption of the trace stands in it
corruption_at : (U : List Entry) (place : Place) → Contains (corruptions U) place → HasCorrupt U place
corruption_at [] place has = absurd (omega (arith, has.1))
corruption_at (e ∷ U) place has =
    elim (corruption_of e) as (λ o. corruption_of e ≡ o → Contains (cons_option o (corruptions U)) place → HasCorrupt (e ∷ U) place) [
      | None ↦ λ takes within. corrupt_later e U place (corruption_at U place within)
      | Some other ↦ λ takes within. corrupt_here e U place other takes (corruption_at U place) within
    ] refl has

bytes_are : (p q : List ℕ) → bytes_eq p q ≡ true → p ≡ q
bytes_are p q same = (bytes_eq-Decides p q).0 same

-- a place that covers a version is its principal, its session or the version
abbrev IsOneOf : List ℕ → ℕ → ℕ → Place → Type 0
IsOneOf p s v place = (place ≡ Principal p) ⊎ ((place ≡ Session p s) ⊎ (place ≡ Version p s v))

one_of : (place : Place) (p : List ℕ) (s v : ℕ) → covers place (Version p s v) ≡ true → IsOneOf p s v place
one_of (Principal q) p s v covering = inl (ap Principal (bytes_are q p covering))
one_of (Session q t) p s v covering =
    let both = and_parts (bytes_eq q p) (t == s) covering in
    let name : q ≡ p = bytes_are q p both.0 in let session : t ≡ s = eqb-true t s both.1 in inr (inl (cc))
one_of (Version q t w) p s v covering =
    let both = and_parts (bytes_eq q p && (t == s)) (w == v) covering in
    let rest = and_parts (bytes_eq q p) (t == s) both.0 in
    let name : q ≡ p = bytes_are q p rest.0 in let session : t ≡ s = eqb-true t s rest.1 in let version : w ≡ v = eqb-true w v both.1 in inr (inr (cc))

-- each field is given with each of the three
field_inferred : (place : Place) (index : ℕ) (p : List ℕ) (s v number : ℕ) (fields : List Term) (k : ℕ) (field : Term) → IsOneOf p s v place → slice_get fields k ≡ Some field
    → (other at : ℕ) × (slice_get (inferences_of_fields index p s v number fields) at ≡ Some (given_with place field (reasons.Field index other)))
field_inferred place index p s v number [] k field of at = absurd cc
field_inferred place index p s v number (x ∷ fields) zero field of at =
    let same : x ≡ field = inside x field at in elim of [
      | inl principal ↦ (number, 0, by (Principal p) principal same)
      | inr later ↦ elim later [
        | inl session ↦ (number, 1, by (Session p s) session same)
        | inr version ↦ (number, 2, by (Version p s v) version same)
      ]
    ] where
      by : (other : Place) → place ≡ other → x ≡ field → Some (given_with other x (reasons.Field index number)) ≡ Some (given_with place field (reasons.Field index number))
      by other is same = cc
field_inferred place index p s v number (x ∷ fields) (suc k) field of at =
    let later = field_inferred place index p s v (number + 1) fields k field of at in (later.0, suc (suc (suc later.1)), later.2)

module _ (T : List Entry) (nodes : List Node) (facts : List Fact) (rules : List Rule) (whys : List Reason) (log : List Step)
    (table : IsTable nodes facts) (inferred : HasInferences facts T rules whys) (complete : IsComplete rules log) where
  abbrev HadFact : Fact → Type 0
  HadFact fact = (number : ℕ) × (slice_get facts number ≡ Some fact) × IsLogged log number

  abbrev AreHad : List Fact → Type 0
  AreHad [] = Unit {0}
  AreHad (fact ∷ more) = HadFact fact × AreHad more

  each_logged : (numbers : List ℕ) (said : List Fact) → map (slice_get facts) numbers ≡ map Some said → AreHad said
      → (k premise : ℕ) → slice_get numbers k ≡ Some premise → IsLogged log premise
  each_logged [] said same had k premise at = absurd cc
  each_logged (n ∷ numbers) [] same had k premise at = absurd cc
  each_logged (n ∷ numbers) (fact ∷ said) same had zero premise at =
      let is : slice_get facts premise ≡ Some fact = cc in
      subst (λ (m : ℕ). IsLogged log m) (table.once had.0.0 premise fact had.0.1 is) had.0.2
  each_logged (n ∷ numbers) (fact ∷ said) same had (suc k) premise at = each_logged numbers said (cc) had.1 k premise at

  -- what is inferred of facts that follow follows
  infers : (inference : Inference) → HasRule facts rules whys inference → AreHad inference.premises → HadFact inference.conclusion
  infers inference rule had = (
    rule.rule.conclusion,
    rule.means.conclusion,
    complete rule.number rule.rule rule.stands (each_logged _ inference.premises rule.means.premises had),
  )

  of_term : (term : Term) (inference : Inference) → IsPart facts term → (place : ℕ) → slice_get (inferences_of_term term) place ≡ Some inference → AreHad inference.premises → HadFact inference.conclusion
  of_term term inference part place at had = infers inference (inferred.of_facts part.0 place (Derived term) inference part.1 at) had

  of_entry : (index : ℕ) (entry : Entry) (inference : Inference) → slice_get T index ≡ Some entry
      → (place : ℕ) → slice_get (inferences_of_entry index entry) place ≡ Some inference → AreHad inference.premises → HadFact inference.conclusion
  of_entry index entry inference stands place at had = infers inference (inferred.of_entries index place entry inference stands at) had

  part_of : (term : Term) → IsHad facts log term → IsPart facts term
  part_of term had = (had.0, had.1)

  parts_are_parts : (whole part : Term) (k : ℕ) → IsPart facts whole → slice_get (parts_of whole) k ≡ Some part → IsPart facts part
  parts_are_parts whole part k of at =
      let node = also_there facts nodes of.0 (Derived whole) (sym table.each) of.1 in
      let is : Some (Derived whole) ≡ Some (fact_of facts node.0) = sym of.1 ∙ table.says of.0 node.0 node.1 in
      let said : Derived whole ≡ fact_of facts node.0 = inside (Derived whole) (fact_of facts node.0) is in
      let numbers : parts_of whole ≡ map (term_at facts) (numbers_of node.0) = ap (λ f. parts_of (term_in f)) said ∙ parts_said facts node.0 in
      let one = from_map (term_at facts) (numbers_of node.0) k part (sym (ap (λ ps. slice_get ps k) numbers) ∙ at) in
      let there = table.parts of.0 node.0 node.1 k one.0 one.1 in
      let same : term_at facts one.0 ≡ there.1.0 = ap term_in (get_or_from_slice_get facts one.0 (Derived there.1.0) (Derived (terms.Lit [])) there.1.1) in
      (one.0, there.1.1 ∙ ap (λ t. Some (Derived t)) (sym same ∙ one.2))

  built_is_had : (term : Term) → IsPart facts term → IsMadeOfParts term
      → ((part : Term) (k : ℕ) → slice_get (parts_of term) k ≡ Some part → IsHad facts log part) → IsHad facts log term
  built_is_had (terms.Lit text) part made had = of_term _ _ part 0 refl tt
  built_is_had (terms.Name principal) part made had = of_term _ _ part 0 refl tt
  built_is_had (terms.Nonce index) part made had = absurd (made index refl)
  built_is_had (terms.Pair a b) part made had = of_term (terms.Pair a b) _ part 0 refl (had a 0 refl, (had b 1 refl, tt))
  built_is_had (terms.Pk k) part made had = of_term (terms.Pk k) _ part 0 refl (had k 0 refl, tt)
  built_is_had (terms.Vk k) part made had = of_term (terms.Vk k) _ part 0 refl (had k 0 refl, tt)
  built_is_had (terms.Penc p m) part made had = of_term (terms.Penc p m) _ part 0 refl (had p 0 refl, (had m 1 refl, tt))
  built_is_had (terms.Aead k m a) part made had = of_term (terms.Aead k m a) _ part 0 refl (had k 0 refl, (had m 1 refl, (had a 2 refl, tt)))
  built_is_had (terms.Sign k m) part made had = of_term (terms.Sign k m) _ part 0 refl (had k 0 refl, (had m 1 refl, tt))
  built_is_had (terms.Mac k m) part made had = of_term (terms.Mac k m) _ part 0 refl (had k 0 refl, (had m 1 refl, tt))
  built_is_had (terms.Kdf k c x) part made had = of_term (terms.Kdf k c x) _ part 0 refl (had k 0 refl, (had x 1 refl, tt))
  built_is_had (terms.Hash m) part made had = of_term (terms.Hash m) _ part 0 refl (had m 0 refl, tt)

  -- Of the facts that follow those of terms are saturated.
  pub facts_saturated : IsSaturated (IsPart facts) (IsHad facts log)
  facts_saturated = record {
    had = part_of;
    parts = parts_are_parts;
    built = built_is_had;
    first = λ a b had. of_term (terms.Pair a b) _ (part_of _ had) 1 refl (had, tt);
    second = λ a b had. of_term (terms.Pair a b) _ (part_of _ had) 2 refl (had, tt);
    decrypted = λ k m had key. of_term (terms.Penc (terms.Pk k) m) _ (part_of _ had) 1 refl (had, (key, tt));
    opened = λ k m a had key. of_term (terms.Aead k m a) _ (part_of _ had) 1 refl (had, (key, tt));
    associated = λ k m a had. of_term (terms.Aead k m a) _ (part_of _ had) 2 refl (had, tt);
    signed = λ k m had. of_term (terms.Sign k m) _ (part_of _ had) 1 refl (had, tt);
  }

  corrupted_is_had : (place : Place) → Contains (corruptions T) place → HadFact (Corrupted place)
  corrupted_is_had place within =
      let at = corruption_at T place within in of_entry at.0 (entries.Corrupt at.1 place) _ at.2 0 refl tt

  field_is_had : (index instance : ℕ) (principal : List ℕ) (session version : ℕ) (tag : List ℕ) (fields : List Term) (field : Term)
      → slice_get T index ≡ Some (entries.State instance principal session version tag fields)
      → is_covered T principal session version ≡ true → Contains fields field → IsHad facts log field
  field_is_had index instance p s v tag fields field at covered within =
      let found = Any-from_list_any (λ corruption. covers corruption (Version p s v)) (corruptions T) covered in
      let place : Place = found.1 in
      let corrupted = corrupted_is_had place (found.0, found.2, found.3) in
      let stands : slice_get fields within.0 ≡ Some field = slice_get-get_or fields within.0 field within.1 ∙ ap Some within.2 in
      let inference = field_inferred place index p s v 1 fields within.0 field (one_of place p s v found.4) stands in
      of_entry index (entries.State instance p s v tag fields) (given_with place field (reasons.Field index inference.0)) at inference.1 inference.2 (corrupted, tt)

  -- All that the trace gives is had.
  pub facts_given : IsGivenAll T (IsHad facts log)
  facts_given = record {
    sent = λ index instance value at. of_entry index (entries.Message instance value) _ at 0 refl tt;
    injected = λ index step value at. of_entry index (entries.Inject step value) _ at 0 refl tt;
    certified = λ index instance principal usage key at. of_entry index (entries.Cert instance principal usage key) _ at 0 refl tt;
    forged = λ index step at. of_entry index (entries.Forge step) _ at 0 refl tt;
    corrupted = field_is_had;
  }
