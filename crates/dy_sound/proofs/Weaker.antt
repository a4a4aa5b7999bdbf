-- Weaker knowledge holds where stronger knowledge does.
use Rattle.std.proofs.Common.{◌≡◌, ◌≢◌, ℕ, suc, ◌<◌, ◌≤◌, Bool, true, ◌&&◌, List, [], ◌∷◌, map, length, Contains, Option, Some, None, if◌then◌else◌, unwrap_or, ◌⊎◌, inl, inr, refl, sym, ap, subst, ◌∙◌, arith}
use Rattle.std.specs.Str.{bytes_eq}
use Rattle.std.proofs.lemmas.Bool.{and_parts, and_from}
use Rattle.std.proofs.lemmas.Option.{slice_get_past, slice_get_cases}
use Rattle.std.proofs.lemmas.Slice.Eq.{bytes_eq-Decides}
use Rattle.dy_term.specs.Terms as trees
use Rattle.dy_term.specs.Terms.{Term}
use Rattle.dy_label.specs.Words.{StaticLabel, Choice, meaning_of}
use Rattle.dy_types.specs.Claims.{StaticUse, is_same_use, Claim, Use, Pk, Vk, Known, claimed_use, pk_label, vk_label, uses_in, pk_labels, vk_labels, HasPk, HasVk, IsWeaker}
use Rattle.dy_types.specs.Facts.{Fact, first_of, guard_of, guards_of}
use Rattle.dy_syntax.specs.Files.{Decl}
use Rattle.dy_typing.specs.Knowledge.{Knowledge, known_at, IsWeakerKnowledge}
use Rattle.dy_entry.specs.Entries.{Entry}
use Rattle.dy_eval.specs.Names.{Names}
use Rattle.dy_sound.specs.Flows.{IsShown}
use Rattle.dy_sound.specs.Events.{HasHappened}
use Rattle.dy_sound.specs.Fields.{HasUse, IsPkFor, IsVkFor}
use Rattle.dy_sound.specs.Names.{value_numbered}
use Rattle.dy_sound.specs.Knowledge.{usage_chosen, ClaimHolds, KnownHolds, FactHolds, Holds}
use Rattle.dy_sound.specs.LawsBelow.{LawsBelow}
use Rattle.dy_sound.proofs.Lists.{Contains-first}
use Rattle.dy_sound.proofs.Elements.{filter_map-from, Contains-filter_map, Contains-map, map-from, if_some}
use Rattle.dy_sound.proofs.Meets.{meet_implies_each, one_or_all_shown, shown_by_meet, made_by_meet}

same_use : (usage other : StaticUse) → is_same_use usage other ≡ true → usage ≡ other
same_use usage other h =
    let parts = and_parts (bytes_eq usage.usage other.usage) (bytes_eq usage.args other.args) h in
    ap (λ (words : List ℕ). record { usage = words; args = usage.args }) ((bytes_eq-Decides usage.usage other.usage).0 parts.0)
    ∙ ap (λ (args : List ℕ). record { usage = other.usage; args = args }) ((bytes_eq-Decides usage.args other.args).0 parts.1)

is_itself : (usage : StaticUse) → is_same_use usage usage ≡ true
is_itself usage =
    and_from (bytes_eq usage.usage usage.usage) (bytes_eq usage.args usage.args)
    ((bytes_eq-Decides usage.usage usage.usage).1 refl) ((bytes_eq-Decides usage.args usage.args).1 refl)

one_pk : (key other : Term) → trees.Pk key ≡ trees.Pk other → key ≡ other
one_pk key other is = cc

one_vk : (key other : Term) → trees.Vk key ≡ trees.Vk other → key ≡ other
one_vk key other is = cc

module _ (below : LawsBelow) (decls : List Decl) (T : List Entry) (choice : Choice) where
  use_claimed : (value : Term) (usage : StaticUse) (claim : Claim) → claimed_use claim ≡ Some usage → ClaimHolds decls T choice value claim → HasUse decls T value (usage_chosen decls choice usage)
  use_claimed value usage (Use other) is holds = let same : other ≡ usage = cc in subst (λ (u : StaticUse). HasUse decls T value (usage_chosen decls choice u)) same holds
  use_claimed value usage (Pk label other) is holds = absurd cc
  use_claimed value usage (Vk label other) is holds = absurd cc

  pk_claimed : (value : Term) (usage : StaticUse) (label : StaticLabel) (claim : Claim) → pk_label usage claim ≡ Some label → ClaimHolds decls T choice value claim → IsPkFor decls T value (meaning_of choice label) (usage_chosen decls choice usage)
  pk_claimed value usage label (Use other) is holds = absurd cc
  pk_claimed value usage label (Pk own other) is holds =
      let found = if_some (is_same_use other usage) own label is in
      subst (λ (l : StaticLabel). IsPkFor decls T value (meaning_of choice l) (usage_chosen decls choice usage)) found.1
      (subst (λ (u : StaticUse). IsPkFor decls T value (meaning_of choice own) (usage_chosen decls choice u)) (same_use other usage found.0) holds)
  pk_claimed value usage label (Vk own other) is holds = absurd cc

  vk_claimed : (value : Term) (usage : StaticUse) (label : StaticLabel) (claim : Claim) → vk_label usage claim ≡ Some label → ClaimHolds decls T choice value claim → IsVkFor decls T value (meaning_of choice label) (usage_chosen decls choice usage)
  vk_claimed value usage label (Use other) is holds = absurd cc
  vk_claimed value usage label (Pk own other) is holds = absurd cc
  vk_claimed value usage label (Vk own other) is holds =
      let found = if_some (is_same_use other usage) own label is in
      subst (λ (l : StaticLabel). IsVkFor decls T value (meaning_of choice l) (usage_chosen decls choice usage)) found.1
      (subst (λ (u : StaticUse). IsVkFor decls T value (meaning_of choice own) (usage_chosen decls choice u)) (same_use other usage found.0) holds)

  -- A usage that is known of a value, it has.
  pub use_holds : (value : Term) (known : Known) → KnownHolds decls T choice value known → (usage : StaticUse) → Contains (uses_in known.claims) usage → HasUse decls T value (usage_chosen decls choice usage)
  use_holds value known h usage has =
      let found = filter_map-from claimed_use known.claims usage has in
      use_claimed value usage found.0 found.2 (h.claims_hold found.0 found.1)

  -- A public key of a usage that is known, it is, under a label that the labels of the claims imply together.
  pub pk_holds : (value : Term) (known : Known) → KnownHolds decls T choice value known → (label : StaticLabel) (usage : StaticUse)
      → HasPk known label usage → IsPkFor decls T value (meaning_of choice label) (usage_chosen decls choice usage)
  pk_holds value known h label usage has =
      made_by_meet below decls T choice trees.Pk one_pk value (usage_chosen decls choice usage) (pk_labels known.claims usage) label
      (λ other stands. let found = filter_map-from (pk_label usage) known.claims other stands in pk_claimed value usage other found.0 found.2 (h.claims_hold found.0 found.1)) has

  -- the same of a verification key
  pub vk_holds : (value : Term) (known : Known) → KnownHolds decls T choice value known → (label : StaticLabel) (usage : StaticUse)
      → HasVk known label usage → IsVkFor decls T value (meaning_of choice label) (usage_chosen decls choice usage)
  vk_holds value known h label usage has =
      made_by_meet below decls T choice trees.Vk one_vk value (usage_chosen decls choice usage) (vk_labels known.claims usage) label
      (λ other stands. let found = filter_map-from (vk_label usage) known.claims other stands in vk_claimed value usage other found.0 found.2 (h.claims_hold found.0 found.1)) has

  weaker_claim : (value : Term) (stronger weaker : Known) → IsWeaker stronger weaker → KnownHolds decls T choice value stronger
      → (claim : Claim) → Contains weaker.claims claim → ClaimHolds decls T choice value claim
  weaker_claim value stronger weaker is h (Use usage) stands =
      use_holds value stronger h usage (is.uses usage (Contains-filter_map claimed_use weaker.claims (Use usage) usage stands refl))
  weaker_claim value stronger weaker is h (Pk label usage) stands =
      let claimed = Contains-filter_map (pk_label usage) weaker.claims (Pk label usage) label stands (ap (λ (b : Bool). if b then Some label else None) (is_itself usage)) in
      pk_holds value stronger h label usage (is.pks label usage (meet_implies_each below (pk_labels weaker.claims usage) label claimed))
  weaker_claim value stronger weaker is h (Vk label usage) stands =
      let claimed = Contains-filter_map (vk_label usage) weaker.claims (Vk label usage) label stands (ap (λ (b : Bool). if b then Some label else None) (is_itself usage)) in
      vk_holds value stronger h label usage (is.vks label usage (meet_implies_each below (vk_labels weaker.claims usage) label claimed))

  pub weaker_known : (value : Term) (stronger weaker : Known) → IsWeaker stronger weaker → KnownHolds decls T choice value stronger → KnownHolds decls T choice value weaker
  weaker_known value stronger weaker is h = record {
    is_open_by_hi = record { opens = λ C over opened. h.is_open_by_hi.opens C over (is.hi choice C opened) };
    opens_lo = record { opens = λ C over opened. is.lo choice C (h.opens_lo.opens C over opened) };
    claims_hold = weaker_claim value stronger weaker is h;
  }

-- a fact whose guard is one for this event and these values
pub record IsFactWith (first event values : List ℕ) (guard : StaticLabel) (fact : Fact) : Type 0 where
  pub is_event : fact.event ≡ event
  pub are_values : map (first_of first) fact.args ≡ values
  pub is_guard : fact.guard ≡ guard

pub fact_with : (first event values : List ℕ) (guard : StaticLabel) (fact : Fact) → guard_of first event values fact ≡ Some guard → IsFactWith first event values guard fact
fact_with first event values guard fact is =
    let found = if_some (bytes_eq fact.event event && bytes_eq (map (first_of first) fact.args) values) fact.guard guard is in
    let parts = and_parts (bytes_eq fact.event event) (bytes_eq (map (first_of first) fact.args) values) found.0 in
    record {
      is_event = (bytes_eq-Decides fact.event event).0 parts.0;
      are_values = (bytes_eq-Decides (map (first_of first) fact.args) values).0 parts.1;
      is_guard = found.1;
    }

-- A number that has no first one is its own.
beyond : (first : List ℕ) (number : ℕ) → length first ≤ number → first_of first number ≡ number
beyond first number past = ap (λ (found : Option ℕ). unwrap_or found number) (slice_get_past first number past)

-- What has a first one that is bound is bound.
bound_if : (first : List ℕ) (number : ℕ) → first_of first number < length first → number < length first
bound_if first number bound = elim ((slice_get_cases first number).1) [
  | inl inside ↦ inside.1
  | inr past ↦ let same = beyond first number past.0 in let after = past.0 in absurd (omega (arith, bound, same, after))
]

-- The values of variables are those of their first ones.
pub first_values : (names : Names) (first : List ℕ) → ((number : ℕ) → value_numbered names (first_of first number) ≡ value_numbered names number)
    → (args : List ℕ) → map (value_numbered names) args ≡ map (value_numbered names) (map (first_of first) args)
first_values names first same [] = refl
first_values names first same (arg ∷ args) =
    ap (λ value. value ∷ map (value_numbered names) args) (sym (same arg))
    ∙ ap (λ values. value_numbered names (first_of first arg) ∷ values) (first_values names first same args)

module _ (below : LawsBelow) (decls : List Decl) (T : List Entry) (choice : Choice) (names : Names) (k weaker : Knowledge) (is : IsWeakerKnowledge k weaker) (h : Holds decls T choice names k) where
  happened_alike : (fact : Fact) (event args : List ℕ) → fact.event ≡ event → map (first_of k.first) fact.args ≡ map (first_of k.first) args
      → HasHappened T fact.event (map (value_numbered names) fact.args) → HasHappened T event (map (value_numbered names) args)
  happened_alike fact event args is_event are_values happened =
      let same : map (value_numbered names) fact.args ≡ map (value_numbered names) args =
      first_values names k.first h.same fact.args ∙ ap (λ (numbers : List ℕ). map (value_numbered names) numbers) are_values ∙ sym (first_values names k.first h.same args) in
      subst (λ (values : List Term). HasHappened T event values) same
      (subst (λ (name : List ℕ). HasHappened T name (map (value_numbered names) fact.args)) is_event happened)

  guard_holds : (event args : List ℕ) (guard : StaticLabel) → Contains (guards_of k.first k.facts event (map (first_of k.first) args)) guard
      → HasHappened T event (map (value_numbered names) args) ⊎ IsShown T (meaning_of choice guard)
  guard_holds event args guard has =
      let found = filter_map-from (guard_of k.first event (map (first_of k.first) args)) k.facts guard has in
      let fact = fact_with k.first event (map (first_of k.first) args) guard found.0 found.2 in
      elim (h.facts_hold found.0 found.1) [
        | inl happened ↦ inl (happened_alike found.0 event args fact.is_event fact.are_values happened)
        | inr shown ↦ inr (subst (λ (l : StaticLabel). IsShown T (meaning_of choice l)) fact.is_guard shown)
      ]

  weaker_fact : (fact : Fact) → Contains weaker.facts fact → FactHolds T choice names fact
  weaker_fact fact stands =
      let guards = guards_of k.first k.facts fact.event (map (first_of k.first) fact.args) in
      elim (one_or_all_shown below decls T choice (λ guard. HasHappened T fact.event (map (value_numbered names) fact.args)) guards
      (λ guard has. guard_holds fact.event fact.args guard has)) [
        | inl found ↦ inl found.1
        | inr all ↦ inr (shown_by_meet below decls T choice guards fact.guard (is.facts fact stands) all)
      ]

  some_guard : (fact : Fact) → Contains weaker.facts fact → (guard : StaticLabel) × Contains (guards_of k.first k.facts fact.event (map (first_of k.first) fact.args)) guard
  some_guard fact stands = one_of (guards_of k.first k.facts fact.event (map (first_of k.first) fact.args)) (((below.meet_implies _ fact.guard).0 (is.facts fact stands)).0) where
    one_of : (guards : List StaticLabel) → guards ≢ [] → (guard : StaticLabel) × Contains guards guard
    one_of [] some = absurd (some refl)
    one_of (guard ∷ guards) some = (guard, Contains-first guard guards)

  -- A fact of the weaker knowledge speaks of variables that are bound, since one of the stronger has the same values.
  weaker_arg_is_bound : (fact : Fact) → Contains weaker.facts fact → (arg : ℕ) → Contains fact.args arg → arg < length k.first
  weaker_arg_is_bound fact stands arg has =
      let guard = some_guard fact stands in
      let found = filter_map-from (guard_of k.first fact.event (map (first_of k.first) fact.args)) k.facts guard.0 guard.1 in
      let with = fact_with k.first fact.event (map (first_of k.first) fact.args) guard.0 found.0 found.2 in
      let first_has : Contains (map (first_of k.first) found.0.args) (first_of k.first arg) =
      subst (λ (numbers : List ℕ). Contains numbers (first_of k.first arg)) (sym with.are_values) (Contains-map (first_of k.first) fact.args arg has) in
      let own = map-from (first_of k.first) found.0.args (first_of k.first arg) first_has in
      let own_bound = h.is_numbered.firsts_are_bound own.0 (h.is_numbered.args_are_bound found.0 found.1 own.0 own.1) in
      let bound : first_of k.first arg < length k.first = subst (λ (n : ℕ). n < length k.first) own.2 own_bound in
      bound_if k.first arg bound

  pub weaker_holds : Holds decls T choice names weaker
  weaker_holds = record {
    variables = h.variables ∙ sym is.words;
    is_numbered = record {
      firsts_count = ap length is.first ∙ h.is_numbered.firsts_count ∙ ap (λ (words : List (List ℕ)). suc (length words)) (sym is.words);
      values_count = is.count ∙ h.is_numbered.values_count ∙ ap (λ (words : List (List ℕ)). suc (length words)) (sym is.words);
      firsts_are_bound = subst (λ (first : List ℕ). (number : ℕ) → number < length first → first_of first number < length first) (sym is.first) h.is_numbered.firsts_are_bound;
      args_are_bound = λ fact stands arg has. subst (λ (first : List ℕ). arg < length first) (sym is.first) (weaker_arg_is_bound fact stands arg has);
    };
    same = subst (λ (first : List ℕ). (number : ℕ) → value_numbered names (first_of first number) ≡ value_numbered names number) (sym is.first) h.same;
    values_hold = λ number. weaker_known below decls T choice (value_numbered names number) (known_at k number) (known_at weaker number) (is.values number) (h.values_hold number);
    facts_hold = weaker_fact;
  }
