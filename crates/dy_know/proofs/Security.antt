-- A trace is secure exactly where its report has no breach.
use Rattle.std.proofs.Common.{◌≡◌, ℕ, zero, suc, ◌+◌, ◌-◌, ◌<◌, ◌≤◌, true, false, List, [], ◌∷◌, ◌++◌, length, take, drop, Option, Some, None, Contains, ◌⊎◌, inl, inr, refl, ap, sym, ◌∙◌, subst, arith}
use Rattle.std.specs.List.{slice_get}
use Rattle.std.proofs.lemmas.Bool.{cases_eq, cases_lt, cases_Bool}
use Rattle.std.proofs.lemmas.List.{take-append-drop, take_all, take-take}
use Rattle.std.proofs.lemmas.List.Elements.{filter_map-append, Contains-append_left}
use Rattle.std.proofs.Math.Seq.{take-add}
use Rattle.dy_term.specs.Terms as terms
use Rattle.dy_term.specs.Terms.{Term}
use Rattle.dy_term.specs.Sameness.{is_same}
use Rattle.dy_term.proofs.Samenesses.{is_same-refl, is_same-equal}
use Rattle.dy_label.specs.Labels.{Place, Label, is_open}
use Rattle.dy_label.proofs.LabelsOpen.{is_open_rises}
use Rattle.dy_syntax.specs.Names.{AtomText}
use Rattle.dy_syntax.specs.Declarations.{EventDecl, Partner}
use Rattle.dy_syntax.specs.Files.{Decl}
use Rattle.dy_entry.specs.Entries as entries
use Rattle.dy_entry.specs.Entries.{Entry}
use Rattle.dy_entry.specs.LookUps.{corruption_of, corruptions}
use Rattle.dy_entry.specs.Attacker.{Derives}
use Rattle.dy_entry.specs.ValueLabels.{label_of, label_of_nonce, makes_nonce}
use Rattle.dy_entry.proofs.Derivations.{derives_still}
use Rattle.dy_sound.specs.Flows.{IsShown}
use Rattle.dy_sound.specs.Words.{Words, event_words, args_meant, label_meant}
use Rattle.dy_sound.specs.Events.{HasHappened, HasHappenedFor, HasPartner}
use Rattle.dy_sound.specs.Secure.{SecretsKept, EventsFollow, IsSecure}
use Rattle.dy_know.specs.Knowing.{IsHonest, IsKnownFrom, through}
use Rattle.dy_know.specs.Breaches.{Breach, Nonce, Event, IsNonceBreach, IsEventBreach, IsBreach}
use Rattle.dy_know.specs.Conditions.{MakesNoncesFirst}
use Rattle.dy_know.specs.Reports.{Report, IsReport}
use Rattle.dy_know.proofs.Lists.{is_in, place_of, in_none}

-- ---- what can be decided

decide_term : (a b : Term) → (a ≡ b) ⊎ (a ≡ b → ⊥)
decide_term a b = elim (cases_Bool (is_same a b)) [
  | inl same ↦ inl (is_same-equal a b same)
  | inr other ↦ inr (λ same. let yes : is_same a b ≡ true = subst (λ (t : Term). is_same a t ≡ true) same (is_same-refl a) in cc (yes, other))
]

decide_list : {A : Type 0} → ((a b : A) → (a ≡ b) ⊎ (a ≡ b → ⊥)) → (xs ys : List A) → (xs ≡ ys) ⊎ (xs ≡ ys → ⊥)
decide_list decide [] [] = inl refl
decide_list decide [] (y ∷ ys) = inr (λ same. cc)
decide_list decide (x ∷ xs) [] = inr (λ same. cc)
decide_list decide (x ∷ xs) (y ∷ ys) = elim (decide x y) [
  | inl first ↦ elim (decide_list decide xs ys) [
    | inl rest ↦ inl (cc (first, rest))
    | inr other ↦ inr (λ same. other cc)
  ]
  | inr other ↦ inr (λ same. other cc)
]

-- the entry is this event
IsThis : List ℕ → List Term → Entry → Type 0
IsThis name args e = (instance : ℕ) × (principal : List ℕ) × (e ≡ entries.Event instance principal name args)

decide_event : (name : List ℕ) (args : List Term) (e : Entry) → IsThis name args e ⊎ (IsThis name args e → ⊥)
unfolding IsThis
decide_event name args (entries.Event instance principal other given) = elim (decide_list cases_eq other name) [
  | inl first ↦ elim (decide_list decide_term given args) [
    | inl second ↦ inl (instance, principal, cc (first, second))
    | inr apart ↦ inr (λ is. apart (cc (is.2)))
  ]
  | inr apart ↦ inr (λ is. apart (cc (is.2)))
]
decide_event name args e = inr (λ is. cc (is.2))

decide_happened : (T : List Entry) (name : List ℕ) (args : List Term) → HasHappened T name args ⊎ (HasHappened T name args → ⊥)
unfolding IsThis
decide_happened [] name args = inr (λ has. let at : None ≡ Some (entries.Event has.instance has.principal name args) = has.stands in cc (at))
decide_happened (e ∷ T) name args = elim (decide_event name args e) [
  | inl is ↦ inl (record { index = zero; instance = is.0; principal = is.1; stands = ap Some is.2 })
  | inr other ↦ elim (decide_happened T name args) [
    | inl later ↦ inl (record { index = suc later.index; instance = later.instance; principal = later.principal; stands = later.stands })
    | inr nowhere ↦ inr (λ has. neither e T name args other nowhere has.index has.instance has.principal has.stands)
  ]
]
  where
    neither : (e : Entry) (T : List Entry) (name : List ℕ) (args : List Term) → (IsThis name args e → ⊥) → (HasHappened T name args → ⊥)
        → (index instance : ℕ) (principal : List ℕ) → slice_get (e ∷ T) index ≡ Some (entries.Event instance principal name args) → ⊥
    neither e T name args other nowhere zero instance principal at = other (instance, principal, cc)
    neither e T name args other nowhere (suc index) instance principal at = nowhere (record { index = index; instance = instance; principal = principal; stands = at })

decide_for : (T : List Entry) (words : Words) (atom : AtomText) (meant : Option (List Term)) → args_meant words atom ≡ meant → HasHappenedFor T words atom ⊎ (HasHappenedFor T words atom → ⊥)
decide_for T words atom None is = inr (λ has. let at : None ≡ Some has.args = sym is ∙ has.args_are in cc (at))
decide_for T words atom (Some args) is = elim (decide_happened T atom.event.word args) [
  | inl has ↦ inl (record { args = args; args_are = is; has_happened = has })
  | inr nowhere ↦ inr (λ has. let same : has.args ≡ args = cc (is, has.args_are) in
      nowhere (subst (λ (xs : List Term). HasHappened T atom.event.word xs) same has.has_happened))
]

decide_partner : (T : List Entry) (words : Words) (partner : Partner) → HasPartner T words partner ⊎ (HasPartner T words partner → ⊥)
decide_partner T words partner = elim (decide_for T words partner.atom (args_meant words partner.atom) refl) [
  | inl has ↦ inl (inl has)
  | inr nowhere ↦ elim (cases_Bool (is_open (corruptions T) (label_meant words partner.unless))) [
    | inl shown ↦ inl (inr (record { is_open_now = shown }))
    | inr closed ↦ inr (λ has. elim has [ inl happened ↦ nowhere happened | inr shown ↦ let yes = shown.is_open_now in cc (yes, closed) ])
  ]
]

-- ---- prefixes

in_take : {A : Type 0} (xs : List A) (n i : ℕ) (x : A) → slice_get (take n xs) i ≡ Some x → (i < n) × (slice_get xs i ≡ Some x)
in_take xs zero i x at = absurd cc
in_take [] (suc n) i x at = absurd cc
in_take (y ∷ ys) (suc n) zero x at = (omega arith, at)
in_take (y ∷ ys) (suc n) (suc i) x at = let rest = in_take ys n i x at in (omega (arith, rest.0), rest.1)

take_at : {A : Type 0} (xs : List A) (n i : ℕ) → i < n → slice_get (take n xs) i ≡ slice_get xs i
take_at xs zero i below = absurd (omega (arith, below))
take_at [] (suc n) i below = refl
take_at (y ∷ ys) (suc n) zero below = refl
take_at (y ∷ ys) (suc n) (suc i) below = take_at ys n i (omega (arith, below))

take_past : {A : Type 0} (xs : List A) (n i : ℕ) → n ≤ i → slice_get (take n xs) i ≡ None
take_past xs zero i past = refl
take_past [] (suc n) i past = refl
take_past (y ∷ ys) (suc n) zero past = absurd (omega (arith, past))
take_past (y ∷ ys) (suc n) (suc i) past = take_past ys n i (omega (arith, past))

-- what is open in a prefix is open in a longer one
open_onward : (T : List Entry) (n m : ℕ) (label : Label) → n ≤ m → is_open (corruptions (take n T)) label ≡ true → is_open (corruptions (take m T)) label ≡ true
open_onward T n m label within shown =
    let sum : m ≡ n + (m - n) = omega (arith, within) in
    let split : take m T ≡ take n T ++ take (m - n) (drop n T) = ap (λ k. take k T) sum ∙ take-add n (m - n) T in
    let parts : corruptions (take m T) ≡ corruptions (take n T) ++ corruptions (take (m - n) (drop n T)) =
    ap corruptions split ∙ filter_map-append corruption_of (take n T) (take (m - n) (drop n T)) in
    is_open_rises (corruptions (take n T)) (corruptions (take m T)) label
    (λ c stands. subst (λ (cs : List Place). Contains cs c) (sym parts) (Contains-append_left (corruptions (take n T)) (corruptions (take (m - n) (drop n T))) c stands)) shown

derived_too : (T : List Entry) (n : ℕ) (value : Term) → Derives (take n T) value → Derives T value
derived_too T n value derived = subst (λ (X : List Entry). Derives X value) (take-append-drop n T) (derives_still (take n T) (drop n T) value derived)

-- ---- no breach, so secure

-- a prefix that derives the nonce has the entry from which on it is known
reached : (T : List Entry) (nonce from n : ℕ) → 0 < n → Derives (take n T) (terms.Nonce nonce) → IsKnownFrom T nonce from → suc from ≤ n
reached T nonce from zero some derived known = absurd (omega (arith, some))
reached T nonce from (suc n) some derived known = elim (cases_lt n from) [
  | inl less ↦ absurd (known.least n less derived)
  | inr past ↦ omega (arith, past)
]

number_again : (declaration : EventDecl) (place : ℕ) (partner : Partner) → slice_get declaration.after place ≡ Some partner → slice_get declaration.after (place + 1 - 1) ≡ Some partner
number_again declaration place partner at =
    let same : place ≡ place + 1 - 1 = omega arith in
    subst (λ n. slice_get declaration.after n ≡ Some partner) same at

shown_by : (decls : List Decl) (T : List Entry) (report : Report) → IsReport decls T report → report.breaches ≡ []
    → (n index : ℕ) → Derives (take n T) (terms.Nonce index) → (e : Entry) → slice_get (take n T) index ≡ Some e → makes_nonce e ≡ true
    → is_open (corruptions (take n T)) (label_of (take n T) (terms.Nonce index)) ≡ true
shown_by decls T report is none n index derived (entries.Forge step) at makes = rw at refl
shown_by decls T report is none n index derived (entries.Fresh instance label usage) at makes =
    let place = in_take T n index (entries.Fresh instance label usage) at in
    let honest : IsHonest T index = record { instance = instance; label = label; usage = usage; stands = place.1 } in
    let found = is.known.all index honest (derived_too T n (terms.Nonce index) derived) in
    let known : IsKnownFrom T index found.0 = is.known.from (record { nonce = index; from = found.0 }) found.1 in
    let within : suc found.0 ≤ n = reached T index found.0 n (omega (arith, place.0)) derived known in
    let has_label : label_of T (terms.Nonce index) ≡ label = ap label_of_nonce place.1 in
    let shown : is_open (corruptions (through T found.0)) label ≡ true = elim (cases_Bool (is_open (corruptions (through T found.0)) label)) [
      | inl shows ↦ shows
      | inr closed ↦
          let breach : IsNonceBreach T index found.0 = record { honest = honest; known = known; closed = rw has_label closed } in
          let listed = is.breaches.nonces index found.0 breach in
          absurd (in_none (Nonce index found.0 listed.0) (subst (λ (bs : List Breach). Contains bs (Nonce index found.0 listed.0)) none listed.1))
    ] in
    rw at (open_onward T (suc found.0) n label within shown)
shown_by decls T report is none n index derived e at makes = absurd cc

pub secure : (decls : List Decl) (T : List Entry) (report : Report) → MakesNoncesFirst T → IsReport decls T report → report.breaches ≡ [] → IsSecure decls T
secure decls T report first is none = record {
  secrets = λ n. record {
    shown = λ index derived. record {
      is_open_now =
          let made = first.made n index derived in
          shown_by decls T report is none n index derived made.0 made.1 made.2;
    };
  };
  events = λ n. record {
    follow = λ index instance principal name args at declaration declared partner listed.
        let place = in_take T n index (entries.Event instance principal name args) at in
        let prefix : take index (take n T) ≡ take index T = take-take index n T (omega (arith, place.0)) in
        let number = place_of declaration.after partner listed in
        subst (λ (X : List Entry). HasPartner X (event_words declaration args) partner) (sym prefix)
        (elim (decide_partner (take index T) (event_words declaration args) partner) [
          | inl there ↦ there
          | inr fails ↦
              let breach : IsEventBreach decls T index (number.0 + 1) = record {
                instance = instance;
                principal = principal;
                name = name;
                args = args;
                stands = place.1;
                declaration = declaration;
                declared = declared;
                partner = partner;
                is_partner = (omega arith, number_again declaration number.0 partner number.1);
                fails = fails;
              } in
              absurd (in_none (Event index (number.0 + 1)) (subst (λ (bs : List Breach). Contains bs (Event index (number.0 + 1))) none (is.breaches.events index (number.0 + 1) breach)))
        ]);
  };
}

-- ---- secure, so no breach

closed_before : (T : List Entry) (nonce from : ℕ) → IsShown (through T from) (label_of (through T from) (terms.Nonce nonce)) → is_open (corruptions (through T from)) (label_of T (terms.Nonce nonce)) ≡ false → ⊥
closed_before T nonce from shown closed = elim (cases_lt nonce (suc from)) [
  | inl below ↦
      let same : label_of (through T from) (terms.Nonce nonce) ≡ label_of T (terms.Nonce nonce) = ap label_of_nonce (take_at T (suc from) nonce below) in
      let yes : is_open (corruptions (through T from)) (label_of T (terms.Nonce nonce)) ≡ true =
      subst (λ (l : Label). is_open (corruptions (through T from)) l ≡ true) same shown.is_open_now in
      cc (yes, closed)
  | inr past ↦
      let none : slice_get (through T from) nonce ≡ None = take_past T (suc from) nonce past in
      let no : false ≡ true = subst (λ (o : Option Entry). is_open (corruptions (through T from)) (label_of_nonce o) ≡ true) none shown.is_open_now in
      cc (no)
]

no_breach : (decls : List Decl) (T : List Entry) (b : Breach) → IsSecure decls T → IsBreach decls T b → ⊥
no_breach decls T (Nonce nonce from recipe) is breach =
    let kept : SecretsKept (through T from) = is.secrets (suc from) in
    closed_before T nonce from (kept.shown nonce breach.0.known.derived) breach.0.closed
no_breach decls T (Event event number) is breach =
    let follow : EventsFollow decls T = subst (EventsFollow decls) (take_all (length T) T (omega arith)) (is.events (length T)) in
    breach.fails (follow.follow event breach.instance breach.principal breach.name breach.args breach.stands breach.declaration breach.declared breach.partner
    (is_in breach.declaration.after (number - 1) breach.partner breach.is_partner.1))

pub nothing_breached : (decls : List Decl) (T : List Entry) (report : Report) → IsReport decls T report → IsSecure decls T → report.breaches ≡ []
nothing_breached decls T report is secure_trace = empty report.breaches is.breaches.each
  where
    empty : (bs : List Breach) → ((b : Breach) → Contains bs b → IsBreach decls T b) → bs ≡ []
    empty [] each = refl
    empty (b ∷ bs) each = absurd (no_breach decls T b secure_trace (each b (is_in (b ∷ bs) zero b refl)))
