-- What weaker knowledge of a handler has, stronger knowledge has too.
use Rattle.std.proofs.Common.{◌≡◌, ℕ, Bool, true, List, map, Contains, Option, Some, None, if◌then◌else◌, refl, sym, ap, subst, ◌∙◌}
use Rattle.std.specs.Option.{option_map, option_and_then, option_map_or}
use Rattle.std.specs.Str.{bytes_eq}
use Rattle.std.proofs.lemmas.Bool.{and_parts, and_from}
use Rattle.std.proofs.lemmas.Option.{cond_some}
use Rattle.std.proofs.lemmas.Slice.Eq.{bytes_eq-Decides}
use Rattle.dy_syntax.specs.Names.{Nm}
use Rattle.dy_label.specs.Words.{StaticLabel, Implies}
use Rattle.dy_types.specs.Claims.{unknown, IsWeaker}
use Rattle.dy_types.specs.Facts.{Fact, first_of, is_fact_of, guard_of, guards_of, HasFact}
use Rattle.dy_typing.specs.Names.{number_in, each_or_none}
use Rattle.dy_typing.specs.Knowledge.{Knowledge, known_at, known_of, value_of, values_of, HappenedWith, Happened, IsWeakerKnowledge}
use Rattle.dy_typing.proofs.Elements.{filter_map-from, Contains-filter_map}
use Rattle.dy_typing.proofs.ValueLaws.{Laws}
use Rattle.dy_typing.proofs.Meets.{MeetImplies-each, MeetImplies-from_each, MeetImplies-onward}

-- the value of a name, of a handler's words and of which variables are one
abbrev value_by : List (List ℕ) → List ℕ → Nm → Option ℕ
value_by words first name = option_map (first_of first) (number_in words name)

abbrev values_by : List (List ℕ) → List ℕ → List Nm → Option (List ℕ)
values_by words first names = each_or_none (value_by words first) names

-- A name has the same value in weaker knowledge.
pub value_of-weaker : (stronger weaker : Knowledge) → IsWeakerKnowledge stronger weaker → (name : Nm)
    → value_of weaker name ≡ value_of stronger name
value_of-weaker stronger weaker h name =
    ap (λ (words : List (List ℕ)). value_by words weaker.first name) h.words
    ∙ ap (λ (first : List ℕ). value_by stronger.words first name) h.first

-- Names have the same values in weaker knowledge.
pub values_of-weaker : (stronger weaker : Knowledge) → IsWeakerKnowledge stronger weaker → (names : List Nm)
    → values_of weaker names ≡ values_of stronger names
values_of-weaker stronger weaker h names =
    ap (λ (words : List (List ℕ)). values_by words weaker.first names) h.words
    ∙ ap (λ (first : List ℕ). values_by stronger.words first names) h.first

-- The same, where there may be no such names.
pub given_values-weaker : (stronger weaker : Knowledge) → IsWeakerKnowledge stronger weaker → (names : Option (List Nm))
    → option_and_then (values_of weaker) names ≡ option_and_then (values_of stronger) names
given_values-weaker stronger weaker h None = refl
given_values-weaker stronger weaker h (Some names) = values_of-weaker stronger weaker h names

-- A variable has the same number in weaker knowledge, and so is one with the same variable.
pub first_of-weaker : (stronger weaker : Knowledge) → IsWeakerKnowledge stronger weaker → (args : List ℕ)
    → map (first_of weaker.first) args ≡ map (first_of stronger.first) args
first_of-weaker stronger weaker h args = ap (λ (first : List ℕ). map (first_of first) args) h.first

known_of_number : Laws → (stronger weaker : Knowledge) → IsWeakerKnowledge stronger weaker → (number : Option ℕ)
    → IsWeaker (option_map_or (known_at stronger) number unknown) (option_map_or (known_at weaker) number unknown)
known_of_number laws stronger weaker h None = laws.itself unknown
known_of_number laws stronger weaker h (Some number) = h.values number

-- What is known of a name is weaker in weaker knowledge.
pub known_of-weaker : Laws → (stronger weaker : Knowledge) → IsWeakerKnowledge stronger weaker → (name : Nm)
    → IsWeaker (known_of stronger name) (known_of weaker name)
known_of-weaker laws stronger weaker h name =
    subst
    (λ (number : Option ℕ). IsWeaker (known_of stronger name) (option_map_or (known_at weaker) number unknown))
    (sym (value_of-weaker stronger weaker h name))
    (known_of_number laws stronger weaker h (value_of stronger name))

pub record IsFactWith (first event values : List ℕ) (guard : StaticLabel) (fact : Fact) : Type 0 where
  pub is_event : fact.event ≡ event
  pub are_values : map (first_of first) fact.args ≡ values
  pub is_guard : fact.guard ≡ guard

-- a fact that gives a guard is one of this event with these values
pub fact_with : (first event values : List ℕ) (guard : StaticLabel) (fact : Fact)
    → guard_of first event values fact ≡ Some guard → IsFactWith first event values guard fact
fact_with first event values guard fact h =
    let found = cond_some (is_fact_of first event values fact) fact.guard guard h in
    let parts = and_parts (bytes_eq fact.event event) (bytes_eq (map (first_of first) fact.args) values) found.0 in
    record {
      is_event = (bytes_eq-Decides fact.event event).0 parts.0;
      are_values = (bytes_eq-Decides (map (first_of first) fact.args) values).0 parts.1;
      is_guard = found.1;
    }

-- The event of each fact has happened.
pub HasFact-itself : Laws → (first : List ℕ) (facts : List Fact) (fact : Fact) → Contains facts fact
    → HasFact first facts fact.event (map (first_of first) fact.args) fact.guard
HasFact-itself laws first facts fact h =
    let values = map (first_of first) fact.args in
    let is_fact : is_fact_of first fact.event values fact ≡ true =
    and_from (bytes_eq fact.event fact.event) (bytes_eq values values)
    ((bytes_eq-Decides fact.event fact.event).1 refl) ((bytes_eq-Decides values values).1 refl) in
    MeetImplies-each laws (guards_of first facts fact.event values) fact.guard
    (Contains-filter_map (guard_of first fact.event values) facts fact fact.guard h
    (ap (λ (b : Bool). if b then Some fact.guard else None) is_fact))

-- An event that has happened unless the label is open, has happened unless a weaker label is.
pub HasFact-onward : (first : List ℕ) (facts : List Fact) (event values : List ℕ) (label weaker : StaticLabel)
    → HasFact first facts event values label → Implies label weaker → HasFact first facts event values weaker
HasFact-onward first facts event values label weaker h k =
    MeetImplies-onward (guards_of first facts event values) label weaker h k

fact_had : (stronger weaker : Knowledge) → IsWeakerKnowledge stronger weaker → (event values : List ℕ)
    → (guard : StaticLabel) → Contains (guards_of weaker.first weaker.facts event values) guard
    → HasFact stronger.first stronger.facts event values guard
fact_had stronger weaker h event values guard has =
    let found = filter_map-from (guard_of weaker.first event values) weaker.facts guard has in
    let fact = found.0 in
    let with = fact_with weaker.first event values guard fact found.2 in
    let same_values : map (first_of stronger.first) fact.args ≡ values =
    sym (first_of-weaker stronger weaker h fact.args) ∙ with.are_values in
    subst (λ (name : List ℕ). HasFact stronger.first stronger.facts name values guard) with.is_event
    (subst (λ (args : List ℕ). HasFact stronger.first stronger.facts fact.event args guard) same_values
    (subst
    (λ (label : StaticLabel). HasFact stronger.first stronger.facts fact.event (map (first_of stronger.first) fact.args) label)
    with.is_guard (h.facts fact found.1)))

-- An event that has happened in weaker knowledge has happened in stronger knowledge.
pub HasFact-stronger : Laws → (stronger weaker : Knowledge) → IsWeakerKnowledge stronger weaker
    → (event values : List ℕ) (label : StaticLabel)
    → HasFact weaker.first weaker.facts event values label → HasFact stronger.first stronger.facts event values label
HasFact-stronger laws stronger weaker h event values label has =
    MeetImplies-from_each laws
    (guards_of stronger.first stronger.facts event values) (guards_of weaker.first weaker.facts event values)
    (fact_had stronger weaker h event values) label has

HappenedWith-stronger : Laws → (stronger weaker : Knowledge) → IsWeakerKnowledge stronger weaker
    → (event : List ℕ) (values : Option (List ℕ)) (label : StaticLabel)
    → HappenedWith weaker event values label → HappenedWith stronger event values label
HappenedWith-stronger laws stronger weaker h event None label has = has
HappenedWith-stronger laws stronger weaker h event (Some values) label has =
    HasFact-stronger laws stronger weaker h event values label has

-- The same, with the values of these names and variables.
pub Happened-stronger : Laws → (stronger weaker : Knowledge) → IsWeakerKnowledge stronger weaker
    → (event : List ℕ) (names : Option (List Nm)) (label : StaticLabel)
    → Happened weaker event names label → Happened stronger event names label
Happened-stronger laws stronger weaker h event names label has =
    HappenedWith-stronger laws stronger weaker h event (option_and_then (values_of stronger) names) label
    (subst (λ (values : Option (List ℕ)). HappenedWith weaker event values label) (given_values-weaker stronger weaker h names) has)

HappenedWith-onward : (k : Knowledge) (event : List ℕ) (values : Option (List ℕ)) (label weaker : StaticLabel)
    → HappenedWith k event values label → Implies label weaker → HappenedWith k event values weaker
HappenedWith-onward k event None label weaker has h = has
HappenedWith-onward k event (Some values) label weaker has h =
    HasFact-onward k.first k.facts event values label weaker has h

-- What has happened unless the label is open, has happened unless a weaker label is.
pub Happened-onward : (k : Knowledge) (event : List ℕ) (names : Option (List Nm)) (label weaker : StaticLabel)
    → Happened k event names label → Implies label weaker → Happened k event names weaker
Happened-onward k event names label weaker has h =
    HappenedWith-onward k event (option_and_then (values_of k) names) label weaker has h
