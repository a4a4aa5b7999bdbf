-- What a handler knows at a place of its text: its variables, what is known of each, and the events that happened.
use Rattle.std.specs.Prelude.{◌≡◌, ℕ, ◌<◌, ◌==◌, min, max, List, [], ◌∷◌, ◌++◌, length, map, Contains, Option, Some, None, slice_get, slice_set, unwrap_or, option_map, option_and_then, if◌then◌else◌}
use Rattle.std.specs.Option.{option_map_or}
use Rattle.dy_syntax.specs.Names.{Nm}
use Rattle.dy_label.specs.Words.{StaticLabel}
use Rattle.dy_types.specs.Claims.{ClaimOf, Claim, KnownOf, Known, plain, unknown, identify_with, IsWeaker}
use Rattle.dy_types.specs.Facts.{FactOf, Fact, first_of, HasFact}
use Rattle.dy_typing.specs.Names.{number_in, each_or_none}

-- The variables are numbered in the order in which they were bound, `self` being 0: `words` has the others. For each it
-- is said which is the first that is one with it. What is known of a value is known under its first variable.
pub record KnowledgeOf (L : Type 0) : Type 0 where
  pub words : List (List ℕ)
  pub first : List ℕ
  pub values : List (KnownOf L)
  pub facts : List (FactOf L)

abbrev pub Knowledge : Type 0
Knowledge = KnowledgeOf StaticLabel

-- before anything is bound but `self`
abbrev pub self_alone : Knowledge
self_alone = record { words = []; first = 0 ∷ []; values = plain ∷ []; facts = [] }

-- the first variable that is one with this name or variable, if it is bound
abbrev pub value_of : {L : Type 0} → KnowledgeOf L → Nm → Option ℕ
value_of k name = option_map (first_of k.first) (number_in k.words name)

abbrev pub known_at : Knowledge → ℕ → Known
known_at k number = unwrap_or (slice_get k.values number) unknown

-- what is known of a name or a variable
abbrev pub known_of : Knowledge → Nm → Known
known_of k name = option_map_or (known_at k) (value_of k name) unknown

-- the first variables that are one with these, if all are bound
abbrev pub values_of : {L : Type 0} → KnowledgeOf L → List Nm → Option (List ℕ)
values_of k names = each_or_none (value_of k) names

-- one more variable
abbrev pub bind : {L : Type 0} → KnowledgeOf L → List ℕ → KnownOf L → KnowledgeOf L
bind k word known = record {
  words = k.words ++ word ∷ [];
  first = k.first ++ length k.first ∷ [];
  values = k.values ++ known ∷ [];
  facts = k.facts;
}

abbrev pub with_claims : {L : Type 0} → KnownOf L → List (ClaimOf L) → KnownOf L
with_claims known said = record { hi = known.hi; lo = known.lo; claims = known.claims ++ said }

-- Of the value of this number this is known.
abbrev pub with_value : {L : Type 0} → KnowledgeOf L → ℕ → KnownOf L → KnowledgeOf L
with_value k number known = record {
  words = k.words;
  first = k.first;
  values = slice_set k.values number known;
  facts = k.facts;
}

-- Of the value of this name this is known besides.
abbrev pub identify_value : Knowledge → Nm → Known → Knowledge
identify_value k name known =
    option_map_or (λ number. with_value k number (identify_with (known_at k number) known)) (value_of k name) k

-- Of the value of this name these claims are made besides.
abbrev pub claim_value : Knowledge → Nm → List Claim → Knowledge
claim_value k name said =
    option_map_or (λ number. with_value k number (with_claims (known_at k number) said)) (value_of k name) k

-- Two values are one: the later one is known under the earlier.
abbrev pub unite : {L : Type 0} → KnowledgeOf L → ℕ → ℕ → KnowledgeOf L
unite k value other = record {
  words = k.words;
  first = map (λ number. if number == max value other then min value other else number) k.first;
  values = k.values;
  facts = k.facts;
}

-- Two values are one, and what is known of either is known of both.
abbrev pub same_values : Knowledge → ℕ → ℕ → Knowledge
same_values k value other =
    if value == other then k
    else with_value (unite k value other) (min value other) (identify_with (known_at k value) (known_at k other))

-- Two names or variables have one value.
abbrev pub same_names : Knowledge → Nm → Nm → Knowledge
same_names k left right =
    option_map_or (λ value. option_map_or (same_values k value) (value_of k right) k) (value_of k left) k

-- one more fact
abbrev pub add_fact : {L : Type 0} → KnowledgeOf L → FactOf L → KnowledgeOf L
add_fact k fact = record { words = k.words; first = k.first; values = k.values; facts = k.facts ++ fact ∷ [] }

-- The event happened with the values of these names and variables, or the guard is open.
abbrev pub add_event : Knowledge → List ℕ → Option (List Nm) → StaticLabel → Knowledge
add_event k event names guard =
    option_map_or (λ args. add_fact k (record { event = event; args = args; guard = guard }))
    (option_and_then (λ given. each_or_none (number_in k.words) given) names) k

-- The event is known to have happened with these values, if there are such, or else the label is open.
abbrev pub HappenedWith : Knowledge → List ℕ → Option (List ℕ) → StaticLabel → Type 0
HappenedWith k event None label = ⊥
HappenedWith k event (Some values) label = HasFact k.first k.facts event values label

-- The event is known to have happened with the values of these names and variables, or else the label is open.
abbrev pub Happened : Knowledge → List ℕ → Option (List Nm) → StaticLabel → Type 0
Happened k event names label = HappenedWith k event (option_and_then (values_of k) names) label

-- Each variable has a first one among those that are bound: `self` and each word have one, and it is one of them.
pub record IsWellNumbered (k : Knowledge) : Type 0 where
  pub words : length k.words < length k.first
  pub values : (number : ℕ) → number < length k.first → first_of k.first number < length k.first

-- The second knowledge is weaker than the first, or says the same. It is of the same variables, with the same ones
-- equal. Each value is known as well in the first, and each fact of the second is one that the first has.
pub record IsWeakerKnowledge (stronger weaker : Knowledge) : Type 0 where
  pub words : weaker.words ≡ stronger.words
  pub first : weaker.first ≡ stronger.first
  pub count : length weaker.values ≡ length stronger.values
  pub values : (number : ℕ) → IsWeaker (known_at stronger number) (known_at weaker number)
  pub facts : (fact : Fact) → Contains weaker.facts fact →
      HasFact stronger.first stronger.facts fact.event (map (first_of stronger.first) fact.args) fact.guard
