-- A report, from what is kept.
use Rattle.std.proofs.Common.{◌≡◌, ℕ, ◌+◌, ◌<◌, true, false, List, [], ◌∷◌, ◌++◌, map, length, Option, Some, None, IfSome, Contains, inl, inr, refl, ap, sym, ◌∙◌, subst, arith}
use Rattle.std.specs.List.{slice_get}
use Rattle.std.proofs.lemmas.Option.{slice_get_within}
use Rattle.std.proofs.lemmas.List.Elements.{Contains-append_left, Contains-append_right, Contains-append_cases, Contains-push}
use Rattle.std.proofs.lemmas.Bool.{cases_order, lt-ltb}
use Rattle.dy_term.specs.Terms as terms
use Rattle.dy_label.specs.Labels.{Label, is_open}
use Rattle.dy_syntax.specs.Files.{Decl}
use Rattle.dy_entry.specs.Entries as entries
use Rattle.dy_entry.specs.Entries.{Entry}
use Rattle.dy_entry.specs.LookUps.{corruptions}
use Rattle.dy_entry.specs.ValueLabels.{label_of, label_of_nonce}
use Rattle.dy_recipe.specs.Moves.{Move}
use Rattle.dy_recipe.specs.declared.moves.Recipe.{Recipe}
use Rattle.dy_recipe.specs.Meaning.{recipe_of}
use Rattle.dy_recipe.specs.Trimming.{EachIsNeeded}
use Rattle.dy_derive.specs.Derivable.{DecidesDerivable}
use Rattle.dy_know.specs.declared.secrets.Knowing.{Knowing}
use Rattle.dy_know.specs.declared.secrets.Knowing.TheVariants as knowing
use Rattle.dy_know.specs.declared.secrets.Secret.{Secret}
use Rattle.dy_know.specs.declared.happened.Lack.{Lack}
use Rattle.dy_know.specs.Knowing.{IsHonest, IsKnownFrom, KnownFrom, through}
use Rattle.dy_know.specs.Breaches.{Breach, Nonce, Event, IsNonceBreach, GivesNonce, IsBreach, comes_before}
use Rattle.dy_know.specs.Reports.{has_lesser_nonce, ListsKnown, ListsBreaches}
use Rattle.dy_know.specs.MirrorEvents.{ListsLacks, is_before}
use Rattle.dy_know.specs.MirrorAuditors.{fresh_label, HasRecipe, IsKept, IsSo, KeepsSecrets, AllKnown, is_breach, breach_count}
use Rattle.dy_know.specs.MirrorReports.{ListsKnownBelow, IsNonceBreachBelow, ListsNonceBreaches, known_by, known_since, IsFoundBy, IsFound, breach_of_lack}
use Rattle.dy_know.proofs.Lists.{in_push, in_none, in_order_none, in_order_push, in_order_append, in_order_map, in_mapped, mapped_in, stands_below}
use Rattle.dy_know.proofs.Knowings.{known_once, known_is_derived, through_last}

-- the entry beside what is kept of it
pub kept_at : (known missing : List ℕ) (T : List Entry) (secrets : List (Option Secret)) (i : ℕ) (secret : Option Secret) → KeepsSecrets known missing T secrets
    → slice_get secrets i ≡ Some secret → (e : Entry) × (slice_get T i ≡ Some e) × IsKept known missing T i (fresh_label e) secret
kept_at known missing T secrets i secret keeps at =
    let within = slice_get_within secrets i secret at in
    let e = stands_below T i (omega (arith, within, keeps.one_each)) in
    (e.0, e.1, keeps.kept i e.0 secret e.1 at)

-- an entry that makes an honest nonce, by its label
pub made_honest : (T : List Entry) (i : ℕ) (e : Entry) (label : Label) → slice_get T i ≡ Some e → fresh_label e ≡ Some label → IsHonest T i × (label_of T (terms.Nonce i) ≡ label)
made_honest T i (entries.Fresh instance l usage) label at is =
    (record { instance = instance; label = l; usage = usage; stands = at }, ap label_of_nonce at ∙ cc)
made_honest T i e label at is = absurd cc

pub honest_label : (T : List Entry) (i : ℕ) (e : Entry) → slice_get T i ≡ Some e → IsHonest T i → (label : Label) × (fresh_label e ≡ Some label)
honest_label T i e at honest =
    let same : entries.Fresh honest.instance honest.label honest.usage ≡ e = cc (at, honest.stands) in
    (honest.label, subst (λ (x : Entry). fresh_label x ≡ Some honest.label) same refl)

since_known : (known missing : List ℕ) (T : List Entry) (i from : ℕ) (label : Option Label) (secret : Option Secret) → IsKept known missing T i label secret
    → known_since secret ≡ Some from → (l : Label) × (label ≡ Some l) × IsKnownFrom T i from
since_known known missing T i from None None kept is = absurd cc
since_known known missing T i from None (Some secret) kept is = absurd kept
since_known known missing T i from (Some l) None kept is = absurd kept
since_known known missing T i from (Some l) (Some secret) kept is = (l, refl, by_state secret.knowing kept.1 is)
  where
    by_state : (k : Knowing) → IsSo known missing T i l k → known_by k ≡ Some from → IsKnownFrom T i from
    by_state knowing.Unknown so is' = absurd cc
    by_state (knowing.Open other) so is' = let same : other ≡ from = cc in subst (IsKnownFrom T i) same so.0
    by_state (knowing.Breach other recipe) so is' = let same : other ≡ from = cc in subst (IsKnownFrom T i) same so.0

since_none : (known missing : List ℕ) (T : List Entry) (i : ℕ) (l : Label) (label : Option Label) (secret : Option Secret) → label ≡ Some l → IsKept known missing T i label secret
    → known_since secret ≡ None → Contains known i → ⊥
since_none known missing T i l None secret is kept none within = absurd cc
since_none known missing T i l (Some other) None is kept none within = kept
since_none known missing T i l (Some other) (Some secret) is kept none within = by_state secret.knowing kept.1 none
  where
    by_state : (k : Knowing) → IsSo known missing T i other k → known_by k ≡ None → ⊥
    by_state knowing.Unknown so none' = so within
    by_state (knowing.Open from) so none' = cc
    by_state (knowing.Breach from recipe) so none' = cc

pub lists_known_none : (known : List ℕ) (T : List Entry) → ListsKnownBelow known 0 T []
lists_known_none known T = record {
  in_order = in_order_none has_lesser_nonce;
  honest = λ k within. absurd (in_none k within);
  from = λ k within. absurd (in_none k within);
  below = λ k within. absurd (in_none k within);
  all = λ nonce honest below within. absurd (omega (arith, below));
}

-- a nonce that is not known, or an entry that makes none
pub lists_known_same : (known missing : List ℕ) (T : List Entry) (secrets : List (Option Secret)) (i : ℕ) (secret : Option Secret) (items : List KnownFrom) → KeepsSecrets known missing T secrets
    → slice_get secrets i ≡ Some secret → known_since secret ≡ None → ListsKnownBelow known i T items → ListsKnownBelow known (i + 1) T items
lists_known_same known missing T secrets i secret items keeps at none lists = record {
  in_order = lists.in_order;
  honest = lists.honest;
  from = lists.from;
  below = λ k within. let less = lists.below k within in omega (arith, less);
  all = λ nonce honest below within. elim (cases_order nonce i) [
    | inl same ↦
        let kept = kept_at known missing T secrets i secret keeps at in
        let label = honest_label T i kept.0 kept.1 (subst (IsHonest T) same honest) in
        absurd (since_none known missing T i label.0 (fresh_label kept.0) secret label.1 kept.2 none (subst (Contains known) same within))
    | inr order ↦ elim order [ inl less ↦ lists.all nonce honest less within | inr more ↦ absurd (omega (arith, below, more)) ]
  ];
}

pub lists_known_push : (known missing : List ℕ) (T : List Entry) (secrets : List (Option Secret)) (i from : ℕ) (secret : Option Secret) (items : List KnownFrom) (item : KnownFrom) → KeepsSecrets known missing T secrets
    → slice_get secrets i ≡ Some secret → known_since secret ≡ Some from → item ≡ record { nonce = i; from = from } → ListsKnownBelow known i T items
    → ListsKnownBelow known (i + 1) T (items ++ item ∷ [])
lists_known_push known missing T secrets i from secret items item keeps at is same lists =
    let kept = kept_at known missing T secrets i secret keeps at in
    let found = since_known known missing T i from (fresh_label kept.0) secret kept.2 is in
    record {
      in_order = in_order_push has_lesser_nonce items item lists.in_order (λ k within. rw same (lt-ltb k.nonce i (lists.below k within)));
      honest = λ k within. elim (in_push items item k within) [
        | inl before ↦ lists.honest k before
        | inr last ↦ subst (λ (x : KnownFrom). IsHonest T x.nonce) (sym same ∙ last) (made_honest T i kept.0 found.0 kept.1 found.1).0
      ];
      from = λ k within. elim (in_push items item k within) [
        | inl before ↦ lists.from k before
        | inr last ↦ subst (λ (x : KnownFrom). IsKnownFrom T x.nonce x.from) (sym same ∙ last) found.2
      ];
      below = λ k within. elim (in_push items item k within) [
        | inl before ↦ let less = lists.below k before in omega (arith, less)
        | inr last ↦ subst (λ (x : KnownFrom). x.nonce < i + 1) (sym same ∙ last) (omega arith)
      ];
      all = λ nonce honest below within. elim (cases_order nonce i) [
        | inl is_last ↦
            (from, subst (λ (x : KnownFrom). Contains (items ++ item ∷ []) x) (same ∙ cc (is_last)) (Contains-push items item))
        | inr order ↦ elim order [
          | inl less ↦ let rest = lists.all nonce honest less within in
              (rest.0, Contains-append_left items (item ∷ []) (record { nonce = nonce; from = rest.0 }) rest.1)
          | inr more ↦ absurd (omega (arith, below, more))
        ]
      ];
    }

pub lists_all_known : (known : List ℕ) (T : List Entry) (items : List KnownFrom) → AllKnown known T → ListsKnownBelow known (length T) T items → ListsKnown T items
lists_all_known known T items all lists = record {
  in_order = lists.in_order;
  honest = lists.honest;
  from = lists.from;
  all = λ nonce honest derived. lists.all nonce honest (slice_get_within T nonce (entries.Fresh honest.instance honest.label honest.usage) honest.stands) (all nonce derived);
}

-- what is found is a breach of the nonce
found_breach : (known missing : List ℕ) (T : List Entry) (i : ℕ) (e : Entry) (secret : Option Secret) (b : Breach) → slice_get T i ≡ Some e → IsKept known missing T i (fresh_label e) secret
    → IsFound T i secret (Some b) → (from : ℕ) × (moves : List Move) × (b ≡ Nonce i from moves) × GivesNonce T i from moves × IsNonceBreach T i from
found_breach known missing T i e None b at kept found = absurd cc
found_breach known missing T i e (Some secret) b at kept found = by_label (fresh_label e) refl kept
  where
    by_state : (l : Label) → fresh_label e ≡ Some l → (k : Knowing) → IsSo known missing T i l k → IsFoundBy T i k (Some b)
        → (from : ℕ) × (moves : List Move) × (b ≡ Nonce i from moves) × GivesNonce T i from moves × IsNonceBreach T i from
    by_state l is knowing.Unknown so found' = absurd cc
    by_state l is (knowing.Open from) so found' = absurd cc
    by_state l is (knowing.Breach from recipe) so found' =
        let honest = made_honest T i e l at is in
        (from, found'.0, cc (found'.1), found'.2, record { honest = honest.0; known = so.0; closed = rw honest.1 so.1 })

    by_label : (label : Option Label) → fresh_label e ≡ label → IsKept known missing T i label (Some secret)
        → (from : ℕ) × (moves : List Move) × (b ≡ Nonce i from moves) × GivesNonce T i from moves × IsNonceBreach T i from
    by_label None is kept' = absurd kept'
    by_label (Some l) is kept' = by_state l is secret.knowing kept'.1 found

-- where nothing is found there is no breach
none_found : (known missing : List ℕ) (T : List Entry) (i from : ℕ) (e : Entry) (secret : Option Secret) → slice_get T i ≡ Some e → IsKept known missing T i (fresh_label e) secret
    → IsFound T i secret None → AllKnown known T → IsNonceBreach T i from → ⊥
none_found known missing T i from e secret at kept found all breach = by_label (fresh_label e) refl secret kept found
  where
    by_state : (l : Label) → fresh_label e ≡ Some l → (k : Knowing) → IsSo known missing T i l k → IsFoundBy T i k None → ⊥
    by_state l is knowing.Unknown so found' = so (all i (known_is_derived T i from breach.known))
    by_state l is (knowing.Open other) so found' =
        let same : other ≡ from = known_once T i other from so.0 breach.known in
        let closed : is_open (corruptions (through T from)) l ≡ false = subst (λ (m : Label). is_open (corruptions (through T from)) m ≡ false) (made_honest T i e l at is).1 breach.closed in
        let shown : is_open (corruptions (through T from)) l ≡ true = subst (λ n. is_open (corruptions (through T n)) l ≡ true) same so.1 in
        cc (closed, shown)
    by_state l is (knowing.Breach other recipe) so found' = cc (found'.1)

    by_label : (label : Option Label) → fresh_label e ≡ label → (s : Option Secret) → IsKept known missing T i label s → IsFound T i s None → ⊥
    by_label None is s kept' found' = let label = honest_label T i e at breach.honest in cc (is, label.1)
    by_label (Some l) is None kept' found' = kept'
    by_label (Some l) is (Some s) kept' found' = by_state l is s.knowing kept'.1 found'

pub lists_breaches_none : (T : List Entry) → ListsNonceBreaches 0 T []
lists_breaches_none T = record {
  in_order = in_order_none comes_before;
  each = λ b within. absurd (in_none b within);
  all = λ nonce from breach below. absurd (omega (arith, below));
}

below_next : (T : List Entry) (i : ℕ) (b : Breach) → IsNonceBreachBelow i T b → IsNonceBreachBelow (i + 1) T b
below_next T i (Nonce nonce from recipe) is = (omega (arith, is.0), is.1, is.2)
below_next T i (Event event partner) is = is

pub lists_breaches_same : (known missing : List ℕ) (T : List Entry) (secrets : List (Option Secret)) (i : ℕ) (secret : Option Secret) (items : List Breach) → KeepsSecrets known missing T secrets
    → AllKnown known T → slice_get secrets i ≡ Some secret → IsFound T i secret None → ListsNonceBreaches i T items → ListsNonceBreaches (i + 1) T items
lists_breaches_same known missing T secrets i secret items keeps all_known at found lists = record {
  in_order = lists.in_order;
  each = λ b within. below_next T i b (lists.each b within);
  all = λ nonce from breach below. elim (cases_order nonce i) [
    | inl same ↦
        let kept = kept_at known missing T secrets i secret keeps at in
        absurd (none_found known missing T i from kept.0 secret kept.1 kept.2 found all_known (subst (λ n. IsNonceBreach T n from) same breach))
    | inr order ↦ elim order [ inl less ↦ lists.all nonce from breach less | inr more ↦ absurd (omega (arith, below, more)) ]
  ];
}

before_nonce : (T : List Entry) (i from : ℕ) (moves : List Move) (b : Breach) → IsNonceBreachBelow i T b → comes_before b (Nonce i from moves) ≡ true
before_nonce T i from moves (Nonce nonce other recipe) is = lt-ltb nonce i is.0
before_nonce T i from moves (Event event partner) is = absurd is

pub lists_breaches_push : (known missing : List ℕ) (T : List Entry) (secrets : List (Option Secret)) (i : ℕ) (secret : Option Secret) (items : List Breach) (b : Breach) → KeepsSecrets known missing T secrets
    → slice_get secrets i ≡ Some secret → IsFound T i secret (Some b) → ListsNonceBreaches i T items → ListsNonceBreaches (i + 1) T (items ++ b ∷ [])
lists_breaches_push known missing T secrets i secret items b keeps at found lists =
    let kept = kept_at known missing T secrets i secret keeps at in
    let is = found_breach known missing T i kept.0 secret b kept.1 kept.2 found in
    record {
      in_order = in_order_push comes_before items b lists.in_order (λ x within. rw is.2 (before_nonce T i is.0 is.1 x (lists.each x within)));
      each = λ x within. elim (in_push items b x within) [
        | inl before ↦ below_next T i x (lists.each x before)
        | inr last ↦ subst (IsNonceBreachBelow (i + 1) T) (sym is.2 ∙ last) (omega arith, is.4, is.3)
      ];
      all = λ nonce from breach below. elim (cases_order nonce i) [
        | inl same ↦
            let from_same : is.0 ≡ from = known_once T i is.0 from is.4.known (subst (λ n. IsKnownFrom T n from) same breach.known) in
            (is.1, subst (λ (x : Breach). Contains (items ++ b ∷ []) x) (is.2 ∙ cc (same, from_same)) (Contains-push items b))
        | inr order ↦ elim order [
          | inl less ↦ let rest = lists.all nonce from breach less in (rest.0, Contains-append_left items (b ∷ []) (Nonce nonce from rest.0) rest.1)
          | inr more ↦ absurd (omega (arith, below, more))
        ]
      ];
    }

-- the breaches of nonces, and then those of events
nonce_is_breach : (decls : List Decl) (T : List Entry) (i : ℕ) (b : Breach) → IsNonceBreachBelow i T b → IsBreach decls T b
nonce_is_breach decls T i (Nonce nonce from recipe) is = (is.1, is.2)
nonce_is_breach decls T i (Event event partner) is = absurd is

nonce_before_event : (T : List Entry) (i : ℕ) (b : Breach) (lack : Lack) → IsNonceBreachBelow i T b → comes_before b (breach_of_lack lack) ≡ true
nonce_before_event T i (Nonce nonce from recipe) lack is = refl
nonce_before_event T i (Event event partner) lack is = absurd is

pub lists_both : (decls : List Decl) (T : List Entry) (nonces : List Breach) (lacks : List Lack) → ListsNonceBreaches (length T) T nonces → ListsLacks decls T (length T) 0 lacks
    → ListsBreaches decls T (nonces ++ map breach_of_lack lacks)
lists_both decls T nonces lacks of_nonces of_events = record {
  in_order = in_order_append comes_before nonces (map breach_of_lack lacks) of_nonces.in_order
      (in_order_map is_before comes_before breach_of_lack lacks (λ x y less. less) of_events.in_order)
      (λ x y within within'. let lack = in_mapped breach_of_lack lacks y within' in
      subst (λ (z : Breach). comes_before x z ≡ true) lack.2 (nonce_before_event T (length T) x lack.0 (of_nonces.each x within)));
  each = λ b within. elim (Contains-append_cases nonces (map breach_of_lack lacks) b within) [
    | inl of_nonce ↦ nonce_is_breach decls T (length T) b (of_nonces.each b of_nonce)
    | inr of_event ↦ let lack = in_mapped breach_of_lack lacks b of_event in
        subst (IsBreach decls T) lack.2 (of_events.each lack.0 lack.1)
  ];
  nonces = λ nonce from breach.
      let found = of_nonces.all nonce from breach (slice_get_within T nonce (entries.Fresh breach.honest.instance breach.honest.label breach.honest.usage) breach.honest.stands) in
      (found.0, Contains-append_left nonces (map breach_of_lack lacks) (Nonce nonce from found.0) found.1);
  events = λ event partner breach.
      let within = slice_get_within T event (entries.Event breach.instance breach.principal breach.name breach.args) breach.stands in
      Contains-append_right nonces (map breach_of_lack lacks) (Event event partner)
      (mapped_in breach_of_lack lacks (record { event = event; partner = partner }) (of_events.all event partner breach (inl within)));
}

-- how many breaches are found
pub found_count : (T : List Entry) (i : ℕ) (secret : Option Secret) (b : Breach) → IsFound T i secret (Some b) → breach_count secret ≡ 1
found_count T i None b found = absurd cc
found_count T i (Some secret) b found = by_state secret.knowing found
  where
    by_state : (k : Knowing) → IsFoundBy T i k (Some b) → is_breach k ≡ 1
    by_state knowing.Unknown found' = absurd cc
    by_state (knowing.Open from) found' = absurd cc
    by_state (knowing.Breach from recipe) found' = refl

pub none_count : (T : List Entry) (i : ℕ) (secret : Option Secret) → IsFound T i secret None → breach_count secret ≡ 0
none_count T i None found = refl
none_count T i (Some secret) found = by_state secret.knowing found
  where
    by_state : (k : Knowing) → IsFoundBy T i k None → is_breach k ≡ 0
    by_state knowing.Unknown found' = refl
    by_state (knowing.Open from) found' = refl
    by_state (knowing.Breach from recipe) found' = absurd (cc (found'.1))

-- ---- the recipe of a breach

-- a recipe that is missing is one over the whole trace
pub recipe_made : (missing : List ℕ) (T : List Entry) (nonce from : ℕ) (made : Option Recipe) → DecidesDerivable T (terms.Nonce nonce) made
    → IfSome made (λ r. EachIsNeeded (recipe_of r)) → IsKnownFrom T nonce from → HasRecipe missing T nonce from None
    → (r : Recipe) × (made ≡ Some r) × GivesNonce T nonce from (recipe_of r)
recipe_made missing T nonce from None decided needed known has = absurd (decided (known_is_derived T nonce from known))
recipe_made missing T nonce from (Some r) decided needed known has = (r, refl, record { gives = rw (through_last T from has.0) decided; needed = needed })

-- what is kept of a breach says from which entry on the nonce is known, and whether it has a recipe
pub breach_known : (known missing : List ℕ) (T : List Entry) (nonce from : ℕ) (label : Option Label) (secret : Option Secret) (s : Secret) (recipe : Option Recipe)
    → secret ≡ Some s → s.knowing ≡ knowing.Breach from recipe → IsKept known missing T nonce label secret → IsKnownFrom T nonce from × HasRecipe missing T nonce from recipe
breach_known known missing T nonce from label secret s recipe is state kept = by_label label (subst (IsKept known missing T nonce label) is kept)
  where
    by_label : (l : Option Label) → IsKept known missing T nonce l (Some s) → IsKnownFrom T nonce from × HasRecipe missing T nonce from recipe
    by_label None kept' = absurd kept'
    by_label (Some l) kept' = let so : IsSo known missing T nonce l (knowing.Breach from recipe) = subst (IsSo known missing T nonce l) state kept'.1 in (so.0, so.2)

pub breach_found : (T : List Entry) (nonce from : ℕ) (secret : Option Secret) (s : Secret) (recipe : Option Recipe) (moves : List Move) → secret ≡ Some s → s.knowing ≡ knowing.Breach from recipe
    → GivesNonce T nonce from moves → IsFound T nonce secret (Some (Nonce nonce from moves))
breach_found T nonce from secret s recipe moves is state gives = rw (is, state) (moves, refl, gives)
