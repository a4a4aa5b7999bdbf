-- One change of knowledge, as a variable that is bound or two values that are one, gives from stronger knowledge stronger
-- knowledge.
use Rattle.std.proofs.Common.{◌≡◌, ℕ, ◌<◌, min, Bool, true, false, length, List, [], ◌∷◌, ◌++◌, map, Contains, Option, Some, None, refl, sym, ap, subst, inl, inr, arith}
use Rattle.std.specs.Prelude.{◌==◌, if◌then◌else◌, option_and_then}
use Rattle.std.specs.Option.{option_map_or}
use Rattle.std.proofs.lemmas.List.{length-append, length-set}
use Rattle.std.proofs.lemmas.List.Elements.{Contains-push, Contains-push_cases}
use Rattle.dy_label.specs.Words.{StaticLabel, Implies}
use Rattle.dy_types.specs.Claims.{Known, IsWeaker, identify_with}
use Rattle.dy_types.specs.Facts.{Fact, first_of, HasFact}
use Rattle.dy_types.specs.FieldTypes.{Declared, declared_claims}
use Rattle.dy_syntax.specs.Names.{Nm}
use Rattle.dy_typing.specs.Names.{number_in, each_or_none}
use Rattle.dy_typing.specs.Knowledge.{Knowledge, known_at, value_of, bind, with_claims, with_value, identify_value, claim_value, unite, same_values, same_names, add_fact, add_event, IsWellNumbered, IsWeakerKnowledge}
use Rattle.dy_typing.proofs.ValueLaws.{Laws}
use Rattle.dy_typing.proofs.Known.{value_of-weaker, HasFact-itself, HasFact-onward}
use Rattle.dy_typing.proofs.Numbering.{renamed_number, value_within}
use Rattle.dy_typing.proofs.Facts.{HasFact-unite, HasFact-bind, HasFact-more}
use Rattle.dy_typing.proofs.Values.{EachIsWeaker-push, EachIsWeaker-set}
use Rattle.dy_typing.proofs.Guards.{with_claims-weaker}

given_one : {A : Type 0} (f g : A → Knowledge) (given : Option A) (stronger weaker : Knowledge)
    → ((a : A) → given ≡ Some a → IsWeakerKnowledge (f a) (g a)) → IsWeakerKnowledge stronger weaker
    → IsWeakerKnowledge (option_map_or f given stronger) (option_map_or g given weaker)
given_one f g None stronger weaker called h = h
given_one f g (Some a) stronger weaker called h = called a refl

-- What may be done to knowledge, where the same is given for both.
pub option_map_or-weaker : {A : Type 0} (f g : A → Knowledge) (given weaker_given : Option A) (stronger weaker : Knowledge)
    → weaker_given ≡ given → ((a : A) → given ≡ Some a → IsWeakerKnowledge (f a) (g a)) → IsWeakerKnowledge stronger weaker
    → IsWeakerKnowledge (option_map_or f given stronger) (option_map_or g weaker_given weaker)
option_map_or-weaker {A = A} f g given weaker_given stronger weaker same called h =
    subst (λ (one : Option A). IsWeakerKnowledge (option_map_or f given stronger) (option_map_or g one weaker)) (sym same)
    (given_one f g given stronger weaker called h)

abbrev numbers_by : List (List ℕ) → Option (List Nm) → Option (List ℕ)
numbers_by words names = option_and_then (λ given. each_or_none (number_in words) given) names

module _ (laws : Laws) (stronger weaker : Knowledge) (h : IsWeakerKnowledge stronger weaker) where
  -- One more variable is known better.
  pub bind-weaker : (word : List ℕ) (known weaker_known : Known) → IsWeaker known weaker_known
      → IsWeakerKnowledge (bind stronger word known) (bind weaker word weaker_known)
  bind-weaker word known weaker_known k = record {
    words = ap (λ (words : List (List ℕ)). words ++ word ∷ []) h.words;
    first = ap (λ (first : List ℕ). first ++ length first ∷ []) h.first;
    count =
        let more = length-append stronger.values (known ∷ []) in
        let weaker_more = length-append weaker.values (weaker_known ∷ []) in
        let count = h.count in omega arith;
    values = EachIsWeaker-push laws stronger.values weaker.values h.count h.values known weaker_known k;
    facts = λ fact has. HasFact-bind laws stronger.first stronger.facts fact.event fact.args fact.guard (h.facts fact has);
  }

  -- One value is known better.
  pub with_value-weaker : (number : ℕ) (known weaker_known : Known) → IsWeaker known weaker_known
      → IsWeakerKnowledge (with_value stronger number known) (with_value weaker number weaker_known)
  with_value-weaker number known weaker_known k = record {
    words = h.words;
    first = h.first;
    count =
        let same = length-set stronger.values number known in
        let weaker_same = length-set weaker.values number weaker_known in
        let count = h.count in omega arith;
    values = EachIsWeaker-set laws stronger.values weaker.values h.count h.values known weaker_known k number;
    facts = h.facts;
  }

  -- The value of a name is one of which better is known.
  pub identify_value-weaker : (name : Nm) (known weaker_known : Known) → IsWeaker known weaker_known
      → IsWeakerKnowledge (identify_value stronger name known) (identify_value weaker name weaker_known)
  identify_value-weaker name known weaker_known k =
      option_map_or-weaker
      (λ number. with_value stronger number (identify_with (known_at stronger number) known))
      (λ number. with_value weaker number (identify_with (known_at weaker number) weaker_known))
      (value_of stronger name) (value_of weaker name) stronger weaker (value_of-weaker stronger weaker h name)
      (λ number is. with_value-weaker number (identify_with (known_at stronger number) known)
      (identify_with (known_at weaker number) weaker_known)
      (laws.identify_with (known_at stronger number) known (known_at weaker number) weaker_known (h.values number) k)) h

  -- The value of a name is claimed to be what a field says, under a guard that is open in fewer cases.
  pub claim_value-weaker : (name : Nm) (type : Declared) (guard weaker_guard : StaticLabel) → Implies guard weaker_guard
      → IsWeakerKnowledge (claim_value stronger name (declared_claims type guard)) (claim_value weaker name (declared_claims type weaker_guard))
  claim_value-weaker name type guard weaker_guard k =
      let said = declared_claims type guard in
      let weaker_said = declared_claims type weaker_guard in
      option_map_or-weaker
      (λ number. with_value stronger number (with_claims (known_at stronger number) said))
      (λ number. with_value weaker number (with_claims (known_at weaker number) weaker_said))
      (value_of stronger name) (value_of weaker name) stronger weaker (value_of-weaker stronger weaker h name)
      (λ number is. with_value-weaker number (with_claims (known_at stronger number) said) (with_claims (known_at weaker number) weaker_said)
      (with_claims-weaker laws (known_at stronger number) (known_at weaker number) type guard weaker_guard (h.values number) k)) h

  fact_more : (fact : Fact) (guard : StaticLabel) (other : Fact) → Contains weaker.facts other
      → HasFact stronger.first (stronger.facts ++ fact ∷ []) other.event (map (first_of stronger.first) other.args) other.guard
  fact_more fact guard other has =
      HasFact-more laws stronger.first stronger.facts (fact ∷ []) other.event (map (first_of stronger.first) other.args) other.guard
      (h.facts other has)

  -- One more event has happened, unless a label is open that is so in fewer cases.
  pub add_fact-weaker : (event args : List ℕ) (guard weaker_guard : StaticLabel) → Implies guard weaker_guard
      → IsWeakerKnowledge (add_fact stronger (record { event = event; args = args; guard = guard }))
      (add_fact weaker (record { event = event; args = args; guard = weaker_guard }))
  add_fact-weaker event args guard weaker_guard k =
      let fact : Fact = record { event = event; args = args; guard = guard } in
      let weaker_fact : Fact = record { event = event; args = args; guard = weaker_guard } in
      let values = map (first_of stronger.first) args in
      let facts = stronger.facts ++ fact ∷ [] in
      let had : HasFact stronger.first facts event values weaker_guard =
      HasFact-onward stronger.first facts event values guard weaker_guard
      (HasFact-itself laws stronger.first facts fact (Contains-push stronger.facts fact)) k in
      record {
        words = h.words;
        first = h.first;
        count = h.count;
        values = h.values;
        facts = λ other has. elim (Contains-push_cases weaker.facts weaker_fact other has) [
          | inl before ↦ fact_more fact guard other before
          | inr is ↦ subst
              (λ (one : Fact). HasFact stronger.first facts one.event (map (first_of stronger.first) one.args) one.guard) is had
        ];
      }

  -- The same, where the names may have no values.
  pub add_event-weaker : (event : List ℕ) (names : Option (List Nm)) (guard weaker_guard : StaticLabel) → Implies guard weaker_guard
      → IsWeakerKnowledge (add_event stronger event names guard) (add_event weaker event names weaker_guard)
  add_event-weaker event names guard weaker_guard k =
      option_map_or-weaker
      (λ args. add_fact stronger (record { event = event; args = args; guard = guard }))
      (λ args. add_fact weaker (record { event = event; args = args; guard = weaker_guard }))
      (numbers_by stronger.words names) (numbers_by weaker.words names) stronger weaker
      (ap (λ (words : List (List ℕ)). numbers_by words names) h.words)
      (λ args is. add_fact-weaker event args guard weaker_guard k) h

  -- Two values are one.
  pub unite-weaker : (value other : ℕ) → value < length stronger.first → other < length stronger.first
      → IsWeakerKnowledge (unite stronger value other) (unite weaker value other)
  unite-weaker value other here there = record {
    words = h.words;
    first = ap (λ (first : List ℕ). map (renamed_number value other) first) h.first;
    count = h.count;
    values = h.values;
    facts = λ fact has.
        HasFact-unite laws stronger.first value other here there stronger.facts fact.event fact.args fact.guard (h.facts fact has);
  }

module _ (laws : Laws) (stronger weaker : Knowledge) (h : IsWeakerKnowledge stronger weaker) where
  -- Two values are one, and what is known of either is known of both.
  pub same_values-weaker : (value other : ℕ) → value < length stronger.first → other < length stronger.first
      → IsWeakerKnowledge (same_values stronger value other) (same_values weaker value other)
  same_values-weaker value other here there = chosen (value == other) where
    chosen : (b : Bool) → IsWeakerKnowledge
        (if b then stronger else with_value (unite stronger value other) (min value other)
        (identify_with (known_at stronger value) (known_at stronger other)))
        (if b then weaker else with_value (unite weaker value other) (min value other)
        (identify_with (known_at weaker value) (known_at weaker other)))
    chosen true = h
    chosen false =
        with_value-weaker laws (unite stronger value other) (unite weaker value other)
        (unite-weaker laws stronger weaker h value other here there) (min value other)
        (identify_with (known_at stronger value) (known_at stronger other))
        (identify_with (known_at weaker value) (known_at weaker other))
        (laws.identify_with (known_at stronger value) (known_at stronger other) (known_at weaker value) (known_at weaker other)
        (h.values value) (h.values other))

  -- Two names have one value.
  pub same_names-weaker : IsWellNumbered stronger → (left right : Nm)
      → IsWeakerKnowledge (same_names stronger left right) (same_names weaker left right)
  same_names-weaker numbered left right =
      option_map_or-weaker
      (λ value. option_map_or (same_values stronger value) (value_of stronger right) stronger)
      (λ value. option_map_or (same_values weaker value) (value_of weaker right) weaker)
      (value_of stronger left) (value_of weaker left) stronger weaker (value_of-weaker stronger weaker h left)
      (λ value is. option_map_or-weaker (same_values stronger value) (same_values weaker value)
      (value_of stronger right) (value_of weaker right) stronger weaker (value_of-weaker stronger weaker h right)
      (λ other also. same_values-weaker value other (value_within stronger left value numbered is)
      (value_within stronger right other numbered also)) h) h
