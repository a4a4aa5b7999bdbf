-- A trace has one report, but for recipes, and what is kept of it says how many breaches that report has.
use Rattle.std.proofs.Common.{◌≡◌, ℕ, zero, suc, ◌+◌, ◌<◌, Bool, true, false, List, [], ◌∷◌, ◌++◌, map, length, sum_by, nat_lt, ◌==◌, ◌&&◌, Option, Some, None, Contains, ◌⊎◌, inl, inr, refl, ap, sym, ◌∙◌, subst, arith, length-append}
use Rattle.std.specs.List.{slice_get}
use Rattle.std.proofs.lemmas.Bool.{ltb-true, eqb-true, lt-ltb, or_cases, and_parts}
use Rattle.std.proofs.lemmas.Option.{slice_get_within}
use Rattle.std.proofs.lemmas.List.{length-map}
use Rattle.std.proofs.lemmas.List.Sums.{sum_by-cons}
use Rattle.std.proofs.lemmas.List.Elements.{Contains-append_left, Contains-append_right, Contains-append_cases}
use Rattle.dy_label.specs.Labels.{Label, is_open}
use Rattle.dy_syntax.specs.Files.{Decl}
use Rattle.dy_entry.specs.Entries as entries
use Rattle.dy_entry.specs.Entries.{Entry}
use Rattle.dy_entry.specs.LookUps.{corruptions}
use Rattle.dy_recipe.specs.declared.moves.Recipe.{Recipe}
use Rattle.dy_know.specs.declared.secrets.Knowing.{Knowing}
use Rattle.dy_know.specs.declared.secrets.Knowing.TheVariants as knowing
use Rattle.dy_know.specs.declared.secrets.Secret.{Secret}
use Rattle.dy_know.specs.declared.happened.Lack.{Lack}
use Rattle.dy_know.specs.Knowing.{KnownFrom, through}
use Rattle.dy_know.specs.Breaches.{Breach, Nonce, Event, IsNonceBreach, IsEventBreach, IsBreach, comes_before, without_recipe}
use Rattle.dy_know.specs.Reports.{Report, IsReport, IsInOrder, has_lesser_nonce, ListsKnown, ListsBreaches}
use Rattle.dy_know.specs.MirrorEvents.{ListsLacks, is_before}
use Rattle.dy_know.specs.MirrorAuditors.{fresh_label, IsKept, IsSo, KeepsSecrets, AllKnown, is_breach, breach_count}
use Rattle.dy_know.specs.MirrorReports.{breach_of_lack}
use Rattle.dy_know.proofs.Lists.{in_none, head_or_later, in_later, in_head, order_tail, order_head, in_order_none, in_order_push, in_order_append, in_order_map, in_mapped, mapped_in, stands_below}
use Rattle.dy_know.proofs.Knowings.{known_once, known_is_derived}
use Rattle.dy_know.proofs.ReportLists.{kept_at, made_honest, honest_label}

-- ---- two lists in strict order that have the same items are one

same_items : {A : Type 0} (before : A → A → Bool) → ((x y : A) → before x y ≡ true → before y x ≡ true → ⊥) → (xs ys : List A) → IsInOrder before xs → IsInOrder before ys
    → ((z : A) → Contains xs z → Contains ys z) → ((z : A) → Contains ys z → Contains xs z) → xs ≡ ys
same_items before strict [] [] ordered ordered' to from = refl
same_items before strict [] (y ∷ ys) ordered ordered' to from = absurd (in_none y (from y (in_head y ys)))
same_items before strict (x ∷ xs) [] ordered ordered' to from = absurd (in_none x (to x (in_head x xs)))
same_items before strict (x ∷ xs) (y ∷ ys) ordered ordered' to from =
    let heads : y ≡ x = elim (head_or_later y ys x (to x (in_head x xs))) [
      | inl same ↦ same
      | inr later ↦ elim (head_or_later x xs y (from y (in_head y ys))) [
        | inl same ↦ sym same
        | inr later' ↦ absurd (strict x y (order_head before x xs y ordered later') (order_head before y ys x ordered' later))
      ]
    ] in
    let rest : xs ≡ ys = same_items before strict xs ys (order_tail before x xs ordered) (order_tail before y ys ordered')
    (λ z within. elim (head_or_later y ys z (to z (in_later x xs z within))) [
      | inl same ↦
          let less : before x x ≡ true = subst (λ w. before x w ≡ true) (sym same ∙ heads) (order_head before x xs z ordered within) in
          absurd (strict x x less less)
      | inr later ↦ later
    ])
    (λ z within. elim (head_or_later x xs z (from z (in_later y ys z within))) [
      | inl same ↦
          let less : before y y ≡ true = subst (λ w. before y w ≡ true) (sym same ∙ sym heads) (order_head before y ys z ordered' within) in
          absurd (strict y y less less)
      | inr later ↦ later
    ]) in
    cc (heads, rest)

-- ---- the orders of a report

nonce_strict : (a b : KnownFrom) → has_lesser_nonce a b ≡ true → has_lesser_nonce b a ≡ true → ⊥
nonce_strict a b less more = omega (arith, ltb-true a.nonce b.nonce less, ltb-true b.nonce a.nonce more)

-- an event before one that comes before it
pairs_strict : (a b c d : ℕ) → (a < c) ⊎ ((a ≡ c) × (b < d)) → (c < a) ⊎ ((c ≡ a) × (d < b)) → ⊥
pairs_strict a b c d (inl x) (inl y) = omega (arith, x, y)
pairs_strict a b c d (inl x) (inr y) = omega (arith, x, y.0)
pairs_strict a b c d (inr x) (inl y) = omega (arith, x.0, y)
pairs_strict a b c d (inr x) (inr y) = omega (arith, x.1, y.1)

pair_before : (a b c d : ℕ) → comes_before (Event a b) (Event c d) ≡ true → (a < c) ⊎ ((a ≡ c) × (b < d))
pair_before a b c d less = elim (or_cases (nat_lt a c) ((a == c) && nat_lt b d) less) [
  | inl first ↦ inl (ltb-true a c first)
  | inr second ↦ let parts = and_parts (a == c) (nat_lt b d) second in inr (eqb-true a c parts.0, ltb-true b d parts.1)
]

breach_strict : (a b : Breach) → comes_before a b ≡ true → comes_before b a ≡ true → ⊥
breach_strict (Nonce nonce from recipe) (Nonce other other_from other_recipe) less more = omega (arith, ltb-true nonce other less, ltb-true other nonce more)
breach_strict (Nonce nonce from recipe) (Event event partner) less more = cc
breach_strict (Event event partner) (Nonce nonce from recipe) less more = cc
breach_strict (Event event partner) (Event other other_partner) less more =
    pairs_strict event partner other other_partner (pair_before event partner other other_partner less) (pair_before other other_partner event partner more)

-- ---- what is known

known_too : (T : List Entry) (xs ys : List KnownFrom) → ListsKnown T xs → ListsKnown T ys → (k : KnownFrom) → Contains xs k → Contains ys k
known_too T xs ys lists lists' k within =
    let known = lists.from k within in
    let found = lists'.all k.nonce (lists.honest k within) (known_is_derived T k.nonce k.from known) in
    let known' = lists'.from (record { nonce = k.nonce; from = found.0 }) found.1 in
    let same : found.0 ≡ k.from = known_once T k.nonce found.0 k.from known' known in
    subst (λ n. Contains ys (record { nonce = k.nonce; from = n })) same found.1

pub one_known : (decls : List Decl) (T : List Entry) (a b : Report) → IsReport decls T a → IsReport decls T b → a.known ≡ b.known
one_known decls T a b is is' =
    same_items has_lesser_nonce nonce_strict a.known b.known is.known.in_order is'.known.in_order (known_too T a.known b.known is.known is'.known) (known_too T b.known a.known is'.known is.known)

-- ---- breaches without their recipes

-- A breach of the trace, of which the recipe is left out.
IsBare : List Decl → List Entry → Breach → Type 0
IsBare decls T (Nonce nonce from recipe) = (recipe ≡ []) × IsNonceBreach T nonce from
IsBare decls T (Event event partner) = IsEventBreach decls T event partner

-- The list has exactly the breaches of the trace, in order and without their recipes.
record ListsBare (decls : List Decl) (T : List Entry) (breaches : List Breach) : Type 0 where
  in_order : IsInOrder comes_before breaches
  each : (b : Breach) → Contains breaches b → IsBare decls T b
  nonces : (nonce from : ℕ) → IsNonceBreach T nonce from → Contains breaches (Nonce nonce from [])
  events : (event partner : ℕ) → IsEventBreach decls T event partner → Contains breaches (Event event partner)

bare_listed : (decls : List Decl) (T : List Entry) (breaches : List Breach) (b : Breach) → ListsBare decls T breaches → IsBare decls T b → Contains breaches b
unfolding IsBare
bare_listed decls T breaches (Nonce nonce from recipe) lists is =
    subst (λ r. Contains breaches (Nonce nonce from r)) (sym is.0) (lists.nonces nonce from is.1)
bare_listed decls T breaches (Event event partner) lists is = lists.events event partner is

one_bare : (decls : List Decl) (T : List Entry) (xs ys : List Breach) → ListsBare decls T xs → ListsBare decls T ys → xs ≡ ys
one_bare decls T xs ys lists lists' =
    same_items comes_before breach_strict xs ys lists.in_order lists'.in_order
    (λ b within. bare_listed decls T ys b lists' (lists.each b within)) (λ b within. bare_listed decls T xs b lists (lists'.each b within))

without_before : (a b : Breach) → comes_before a b ≡ true → comes_before (without_recipe a) (without_recipe b) ≡ true
without_before (Nonce nonce from recipe) (Nonce other other_from other_recipe) less = less
without_before (Nonce nonce from recipe) (Event event partner) less = less
without_before (Event event partner) (Nonce nonce from recipe) less = less
without_before (Event event partner) (Event other other_partner) less = less

without_bare : (decls : List Decl) (T : List Entry) (b : Breach) → IsBreach decls T b → IsBare decls T (without_recipe b)
unfolding IsBare
without_bare decls T (Nonce nonce from recipe) is = (refl, is.0)
without_bare decls T (Event event partner) is = is

bare_of_report : (decls : List Decl) (T : List Entry) (breaches : List Breach) → ListsBreaches decls T breaches → ListsBare decls T (map without_recipe breaches)
bare_of_report decls T breaches lists = record {
  in_order = in_order_map comes_before comes_before without_recipe breaches without_before lists.in_order;
  each = λ b within. let one = in_mapped without_recipe breaches b within in subst (IsBare decls T) one.2 (without_bare decls T one.0 (lists.each one.0 one.1));
  nonces = λ nonce from breach. let found = lists.nonces nonce from breach in mapped_in without_recipe breaches (Nonce nonce from found.0) found.1;
  events = λ event partner breach. mapped_in without_recipe breaches (Event event partner) (lists.events event partner breach);
}

pub one_breaches : (decls : List Decl) (T : List Entry) (a b : Report) → IsReport decls T a → IsReport decls T b → map without_recipe a.breaches ≡ map without_recipe b.breaches
one_breaches decls T a b is is' =
    one_bare decls T (map without_recipe a.breaches) (map without_recipe b.breaches) (bare_of_report decls T a.breaches is.breaches) (bare_of_report decls T b.breaches is'.breaches)

length_without : (breaches : List Breach) → length (map without_recipe breaches) ≡ length breaches
length_without breaches = length-map breaches without_recipe

pub one_count : (decls : List Decl) (T : List Entry) (a b : Report) → IsReport decls T a → IsReport decls T b → length a.breaches ≡ length b.breaches
one_count decls T a b is is' = sym (length_without a.breaches) ∙ ap length (one_breaches decls T a b is is') ∙ length_without b.breaches

-- ---- how many breaches are kept

-- the breaches that are kept, of nonces from this one on
bare_by : ℕ → Knowing → List Breach
bare_by nonce knowing.Unknown = []
bare_by nonce (knowing.Open from) = []
bare_by nonce (knowing.Breach from recipe) = Nonce nonce from [] ∷ []

bare_of : ℕ → Option Secret → List Breach
bare_of nonce None = []
bare_of nonce (Some secret) = bare_by nonce secret.knowing

bare_kept : ℕ → List (Option Secret) → List Breach
bare_kept nonce [] = []
bare_kept nonce (secret ∷ secrets) = bare_of nonce secret ++ bare_kept (suc nonce) secrets

-- The secret is a breach from this entry on.
IsBreachFrom : Option Secret → ℕ → Type 0
IsBreachFrom secret from = (s : Secret) × (recipe : Option Recipe) × (secret ≡ Some s) × (s.knowing ≡ knowing.Breach from recipe)

count_of : (nonce : ℕ) (secret : Option Secret) → length (bare_of nonce secret) ≡ breach_count secret
unfolding bare_of bare_by
count_of nonce None = refl
count_of nonce (Some secret) = by_state secret.knowing
  where
    by_state : (k : Knowing) → length (bare_by nonce k) ≡ is_breach k
    by_state knowing.Unknown = refl
    by_state (knowing.Open from) = refl
    by_state (knowing.Breach from recipe) = refl

count_kept : (nonce : ℕ) (secrets : List (Option Secret)) → length (bare_kept nonce secrets) ≡ sum_by breach_count secrets
unfolding bare_kept
count_kept nonce [] = refl
count_kept nonce (secret ∷ secrets) =
    let first = count_of nonce secret in
    let rest = count_kept (suc nonce) secrets in
    length-append (bare_of nonce secret) (bare_kept (suc nonce) secrets) ∙ omega (arith, first, rest, sum_by-cons breach_count secret secrets)

bare_from : (nonce : ℕ) (secret : Option Secret) (b : Breach) → Contains (bare_of nonce secret) b → (from : ℕ) × IsBreachFrom secret from × (Nonce nonce from [] ≡ b)
unfolding bare_of bare_by IsBreachFrom
bare_from nonce None b within = absurd (in_none b within)
bare_from nonce (Some secret) b within = by_state secret.knowing refl within
  where
    by_state : (k : Knowing) → secret.knowing ≡ k → Contains (bare_by nonce k) b → (from : ℕ) × IsBreachFrom (Some secret) from × (Nonce nonce from [] ≡ b)
    by_state knowing.Unknown is within' = absurd (in_none b within')
    by_state (knowing.Open from) is within' = absurd (in_none b within')
    by_state (knowing.Breach from recipe) is within' = elim (head_or_later (Nonce nonce from []) [] b within') [
      | inl same ↦ (from, (secret, recipe, refl, is), same)
      | inr later ↦ absurd (in_none b later)
    ]

from_bare : (nonce from : ℕ) (secret : Option Secret) → IsBreachFrom secret from → Contains (bare_of nonce secret) (Nonce nonce from [])
unfolding bare_of bare_by IsBreachFrom
from_bare nonce from secret is = rw (is.2, is.3) (in_head (Nonce nonce from []) [])

-- a breach that is kept, by its place
kept_from : (nonce : ℕ) (secrets : List (Option Secret)) (b : Breach) → Contains (bare_kept nonce secrets) b
    → (place from : ℕ) × (secret : Option Secret) × (slice_get secrets place ≡ Some secret) × IsBreachFrom secret from × (Nonce (nonce + place) from [] ≡ b)
unfolding bare_kept
kept_from nonce [] b within = absurd (in_none b within)
kept_from nonce (secret ∷ secrets) b within = elim (Contains-append_cases (bare_of nonce secret) (bare_kept (suc nonce) secrets) b within) [
  | inl first ↦
      let is = bare_from nonce secret b first in
      let same : nonce + 0 ≡ nonce = omega arith in
      (zero, is.0, secret, refl, is.1, rw same is.2)
  | inr later ↦
      let is = kept_from (suc nonce) secrets b later in
      let same : nonce + suc is.0 ≡ suc nonce + is.0 = omega arith in
      (suc is.0, is.1, is.2, is.3, is.4, rw same is.5)
]

from_kept : (nonce : ℕ) (secrets : List (Option Secret)) (place from : ℕ) (secret : Option Secret) → slice_get secrets place ≡ Some secret → IsBreachFrom secret from
    → Contains (bare_kept nonce secrets) (Nonce (nonce + place) from [])
unfolding bare_kept
from_kept nonce [] place from secret at is = absurd cc
from_kept nonce (first ∷ secrets) zero from secret at is =
    let same : first ≡ secret = cc in
    let here : nonce + 0 ≡ nonce = omega arith in
    rw here (Contains-append_left (bare_of nonce first) (bare_kept (suc nonce) secrets) (Nonce nonce from []) (rw same (from_bare nonce from secret is)))
from_kept nonce (first ∷ secrets) (suc place) from secret at is =
    let there : nonce + suc place ≡ suc nonce + place = omega arith in
    rw there (Contains-append_right (bare_of nonce first) (bare_kept (suc nonce) secrets) (Nonce (suc nonce + place) from []) (from_kept (suc nonce) secrets place from secret at is))

order_of : (nonce : ℕ) (secret : Option Secret) → IsInOrder comes_before (bare_of nonce secret)
unfolding bare_of bare_by
order_of nonce None = in_order_none comes_before
order_of nonce (Some secret) = by_state secret.knowing
  where
    by_state : (k : Knowing) → IsInOrder comes_before (bare_by nonce k)
    by_state knowing.Unknown = in_order_none comes_before
    by_state (knowing.Open from) = in_order_none comes_before
    by_state (knowing.Breach from recipe) = in_order_push comes_before [] (Nonce nonce from []) (in_order_none comes_before) (λ x within. absurd (in_none x within))

order_kept : (nonce : ℕ) (secrets : List (Option Secret)) → IsInOrder comes_before (bare_kept nonce secrets)
unfolding bare_kept
order_kept nonce [] = in_order_none comes_before
order_kept nonce (secret ∷ secrets) =
    in_order_append comes_before (bare_of nonce secret) (bare_kept (suc nonce) secrets) (order_of nonce secret) (order_kept (suc nonce) secrets)
    (λ x y within within'.
    let first = bare_from nonce secret x within in
    let later = kept_from (suc nonce) secrets y within' in
    let less : comes_before (Nonce nonce first.0 []) (Nonce (suc nonce + later.0) later.1 []) ≡ true = lt-ltb nonce (suc nonce + later.0) (omega arith) in
    subst (λ (z : Breach). comes_before x z ≡ true) later.5 (subst (λ (z : Breach). comes_before z (Nonce (suc nonce + later.0) later.1 []) ≡ true) first.2 less))

-- what is kept of a nonce is a breach exactly where the trace breaches it
breach_is_kept : (known missing : List ℕ) (T : List Entry) (i from : ℕ) (e : Entry) (secret : Option Secret) → slice_get T i ≡ Some e → IsKept known missing T i (fresh_label e) secret
    → AllKnown known T → IsNonceBreach T i from → IsBreachFrom secret from
unfolding IsBreachFrom
breach_is_kept known missing T i from e secret at kept all breach = by_label (fresh_label e) refl secret kept
  where
    by_state : (l : Label) → fresh_label e ≡ Some l → (s : Secret) (k : Knowing) → s.knowing ≡ k → IsSo known missing T i l k → IsBreachFrom (Some s) from
    by_state l is s knowing.Unknown state so = absurd (so (all i (known_is_derived T i from breach.known)))
    by_state l is s (knowing.Open other) state so =
        let same : other ≡ from = known_once T i other from so.0 breach.known in
        let closed : is_open (corruptions (through T from)) l ≡ false = subst (λ (m : Label). is_open (corruptions (through T from)) m ≡ false) (made_honest T i e l at is).1 breach.closed in
        let shown : is_open (corruptions (through T from)) l ≡ true = subst (λ n. is_open (corruptions (through T n)) l ≡ true) same so.1 in
        absurd (cc (closed, shown))
    by_state l is s (knowing.Breach other recipe) state so =
        let same : other ≡ from = known_once T i other from so.0 breach.known in
        (s, recipe, refl, subst (λ n. s.knowing ≡ knowing.Breach n recipe) same state)

    by_label : (label : Option Label) → fresh_label e ≡ label → (s : Option Secret) → IsKept known missing T i label s → IsBreachFrom s from
    by_label None is s kept' = let label = honest_label T i e at breach.honest in absurd (cc (is, label.1))
    by_label (Some l) is None kept' = absurd kept'
    by_label (Some l) is (Some s) kept' = by_state l is s s.knowing refl kept'.1

kept_is_breach : (known missing : List ℕ) (T : List Entry) (i from : ℕ) (e : Entry) (secret : Option Secret) → slice_get T i ≡ Some e → IsKept known missing T i (fresh_label e) secret
    → IsBreachFrom secret from → IsNonceBreach T i from
unfolding IsBreachFrom
kept_is_breach known missing T i from e secret at kept is = by_label (fresh_label e) refl (subst (IsKept known missing T i (fresh_label e)) is.2 kept)
  where
    by_label : (label : Option Label) → fresh_label e ≡ label → IsKept known missing T i label (Some is.0) → IsNonceBreach T i from
    by_label None none kept' = absurd kept'
    by_label (Some l) some kept' =
        let so : IsSo known missing T i l (knowing.Breach from is.1) = subst (IsSo known missing T i l) is.3 kept'.1 in
        let honest = made_honest T i e l at some in
        record { honest = honest.0; known = so.0; closed = rw honest.1 so.1 }

bare_of_notes : (known missing : List ℕ) (decls : List Decl) (T : List Entry) (secrets : List (Option Secret)) (lacks : List Lack) → KeepsSecrets known missing T secrets → AllKnown known T
    → ListsLacks decls T (length T) 0 lacks → ListsBare decls T (bare_kept 0 secrets ++ map breach_of_lack lacks)
unfolding IsBare
bare_of_notes known missing decls T secrets lacks keeps all of_events = record {
  in_order = in_order_append comes_before (bare_kept 0 secrets) (map breach_of_lack lacks) (order_kept 0 secrets)
      (in_order_map is_before comes_before breach_of_lack lacks (λ x y less. less) of_events.in_order)
      (λ x y within within'.
      let lack = in_mapped breach_of_lack lacks y within' in
      let nonce = kept_from 0 secrets x within in
      subst (λ (z : Breach). comes_before x z ≡ true) lack.2 (subst (λ (z : Breach). comes_before z (breach_of_lack lack.0) ≡ true) nonce.5 refl));
  each = λ b within. elim (Contains-append_cases (bare_kept 0 secrets) (map breach_of_lack lacks) b within) [
    | inl of_nonce ↦
        let is = kept_from 0 secrets b of_nonce in
        let kept = kept_at known missing T secrets is.0 is.2 keeps is.3 in
        let breach : IsNonceBreach T is.0 is.1 = kept_is_breach known missing T is.0 is.1 kept.0 is.2 kept.1 kept.2 is.4 in
        let same : is.0 ≡ 0 + is.0 = omega arith in
        subst (IsBare decls T) is.5 (refl, subst (λ n. IsNonceBreach T n is.1) same breach)
    | inr of_event ↦ let lack = in_mapped breach_of_lack lacks b of_event in subst (IsBare decls T) lack.2 (of_events.each lack.0 lack.1)
  ];
  nonces = λ nonce from breach.
      let fresh = entries.Fresh breach.honest.instance breach.honest.label breach.honest.usage in
      let within = slice_get_within T nonce fresh breach.honest.stands in
      let secret = stands_below secrets nonce (omega (arith, within, keeps.one_each)) in
      let is = breach_is_kept known missing T nonce from fresh secret.0 breach.honest.stands (keeps.kept nonce fresh secret.0 breach.honest.stands secret.1) all breach in
      let same : 0 + nonce ≡ nonce = omega arith in
      Contains-append_left (bare_kept 0 secrets) (map breach_of_lack lacks) (Nonce nonce from [])
      (subst (λ n. Contains (bare_kept 0 secrets) (Nonce n from [])) same (from_kept 0 secrets nonce from secret.0 secret.1 is));
  events = λ event partner breach.
      let within = slice_get_within T event (entries.Event breach.instance breach.principal breach.name breach.args) breach.stands in
      Contains-append_right (bare_kept 0 secrets) (map breach_of_lack lacks) (Event event partner)
      (mapped_in breach_of_lack lacks (record { event = event; partner = partner }) (of_events.all event partner breach (inl within)));
}

-- each report of the trace has as many breaches as are kept
pub count_of_notes : (known missing : List ℕ) (decls : List Decl) (T : List Entry) (secrets : List (Option Secret)) (lacks : List Lack) (report : Report) → KeepsSecrets known missing T secrets
    → AllKnown known T → ListsLacks decls T (length T) 0 lacks → IsReport decls T report → sum_by breach_count secrets + length lacks ≡ length report.breaches
count_of_notes known missing decls T secrets lacks report keeps all of_events is =
    let same = one_bare decls T (bare_kept 0 secrets ++ map breach_of_lack lacks) (map without_recipe report.breaches) (bare_of_notes known missing decls T secrets lacks keeps all of_events) (bare_of_report decls T report.breaches is.breaches) in
    let whole = ap length same ∙ length_without report.breaches in
    let parts = length-append (bare_kept 0 secrets) (map breach_of_lack lacks) in
    let counted = count_kept 0 secrets in
    let of_lacks = length-map lacks breach_of_lack in
    grind (arith, whole, parts, counted, of_lacks)
