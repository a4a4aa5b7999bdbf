-- Events that have happened, and partners that they lack, in a trace that grows.
use Rattle.std.proofs.Common.{◌≡◌, ℕ, zero, suc, ◌+◌, ◌-◌, ◌<◌, true, List, [], ◌∷◌, ◌++◌, length, take, Option, Some, None, Contains, ◌⊎◌, inl, inr, refl, ap, sym, ◌∙◌, subst, arith, nat_lt, ◌||◌, ◌&&◌, ◌==◌, eq-eqb}
use Rattle.std.specs.List.{slice_get, filter_map, cons_option}
use Rattle.std.proofs.lemmas.Option.{slice_get_within}
use Rattle.std.proofs.lemmas.List.{take-append-le}
use Rattle.std.proofs.lemmas.List.Elements.{Contains-append_left, Contains-push}
use Rattle.std.proofs.lemmas.Bool.{cases_order, lt-ltb}
use Rattle.std.proofs.Math.Bool.{or-true}
use Rattle.dy_term.specs.Terms.{Term}
use Rattle.dy_label.specs.Labels.{Place}
use Rattle.dy_syntax.specs.Declarations.{EventDecl, Partner}
use Rattle.dy_syntax.specs.Files.{Decl}
use Rattle.dy_syntax.specs.LookUps.{event_named}
use Rattle.dy_entry.specs.Entries.{Entry, Event}
use Rattle.dy_entry.specs.LookUps.{corruptions}
use Rattle.dy_entry.proofs.Traces.{slice_get-prefix}
use Rattle.dy_sound.specs.Words.{Words, event_words}
use Rattle.dy_sound.specs.Events.{HasHappened, HasPartner}
use Rattle.dy_know.specs.declared.happened.Happened.{Happened}
use Rattle.dy_know.specs.declared.happened.Lack.{Lack}
use Rattle.dy_know.specs.Breaches.{IsEventBreach}
use Rattle.dy_know.specs.MirrorEvents.{happened_in, all_happened, HasPartnerAmong, Precedes, is_before, ListsLacks, IsEventAt}
use Rattle.dy_know.proofs.Lists.{is_in, place_of, in_push, in_none, in_order_push, in_order_none}

-- what is made of an item is in the list of what is made
pub made_in : {A B : Type 0} (f : A → Option B) (xs : List A) (i : ℕ) (x : A) (y : B) → slice_get xs i ≡ Some x → f x ≡ Some y → (k : ℕ) × (slice_get (filter_map f xs) k ≡ Some y)
made_in f [] i x y at is = absurd cc
made_in f (z ∷ zs) zero x y at is =
    let first : f z ≡ Some y = cc in
    (zero, subst (λ (o : Option _). slice_get (cons_option o (filter_map f zs)) zero ≡ Some y) (sym first) refl)
made_in f (z ∷ zs) (suc i) x y at is =
    let rest = made_in f zs i x y at is in
    put (f z) rest.0 rest.1
  where
    put : (o : Option _) (k : ℕ) → slice_get (filter_map f zs) k ≡ Some y → (m : ℕ) × (slice_get (cons_option o (filter_map f zs)) m ≡ Some y)
    put None k e = (k, e)
    put (Some w) k e = (suc k, e)

-- and what is in it is made of an item
pub made_from : {A B : Type 0} (f : A → Option B) (xs : List A) (k : ℕ) (y : B) → slice_get (filter_map f xs) k ≡ Some y → (i : ℕ) × (x : A) × (slice_get xs i ≡ Some x) × (f x ≡ Some y)
made_from f [] k y at = absurd cc
made_from f (z ∷ zs) k y at = split (λ m e. made_from f zs m y e) (f z) refl k at
  where
    later : ((m : ℕ) → slice_get (filter_map f zs) m ≡ Some y → (i : ℕ) × (x : _) × (slice_get zs i ≡ Some x) × (f x ≡ Some y))
        → (m : ℕ) → slice_get (filter_map f zs) m ≡ Some y → (i : ℕ) × (x : _) × (slice_get (z ∷ zs) i ≡ Some x) × (f x ≡ Some y)
    later rest m e = let found = rest m e in (suc found.0, found.1, found.2, found.3)

    split : ((m : ℕ) → slice_get (filter_map f zs) m ≡ Some y → (i : ℕ) × (x : _) × (slice_get zs i ≡ Some x) × (f x ≡ Some y))
        → (o : Option _) → f z ≡ o → (m : ℕ) → slice_get (cons_option o (filter_map f zs)) m ≡ Some y → (i : ℕ) × (x : _) × (slice_get (z ∷ zs) i ≡ Some x) × (f x ≡ Some y)
    split rest None is m e = later rest m e
    split rest (Some w) is zero e = (zero, z, refl, is ∙ e)
    split rest (Some w) is (suc m) e = later rest m e

-- the entry of an event that has happened
event_made : (e : Entry) (h : Happened) → happened_in e ≡ Some h → (instance : ℕ) × (principal : List ℕ) × (e ≡ Event instance principal h.name h.args)
event_made (Event instance principal name args) h is = (instance, principal, cc)
event_made e h is = absurd cc

pub among_happened : (T : List Entry) (name : List ℕ) (args : List Term) → HasHappened T name args → Contains (all_happened T) (record { name = name; args = args })
among_happened T name args has =
    let made = made_in happened_in T has.index (Event has.instance has.principal name args) (record { name = name; args = args }) has.stands refl in
    is_in (all_happened T) made.0 (record { name = name; args = args }) made.1

pub happened_among : (T : List Entry) (name : List ℕ) (args : List Term) → Contains (all_happened T) (record { name = name; args = args }) → HasHappened T name args
happened_among T name args within =
    let at = place_of (all_happened T) (record { name = name; args = args }) within in
    let from = made_from happened_in T at.0 (record { name = name; args = args }) at.1 in
    let is = event_made from.1 (record { name = name; args = args }) from.3 in
    record { index = from.0; instance = is.0; principal = is.1; stands = from.2 ∙ ap Some is.2 }

-- a partner is there among what has happened exactly where it is there in the trace
pub partner_there : (T : List Entry) (happened : List Happened) (places : List Place) (words : Words) (partner : Partner) → happened ≡ all_happened T → places ≡ corruptions T
    → HasPartnerAmong happened places words partner → HasPartner T words partner
partner_there T happened places words partner is_happened is_places (inl has) = inl (record {
  args = has.args;
  args_are = has.args_are;
  has_happened = happened_among T partner.atom.event.word has.args (subst (λ (hs : List Happened). Contains hs (record { name = partner.atom.event.word; args = has.args })) is_happened has.among);
})
partner_there T happened places words partner is_happened is_places (inr shown) = inr (record { is_open_now = rw (← is_places) shown })

pub partner_among : (T : List Entry) (happened : List Happened) (places : List Place) (words : Words) (partner : Partner) → happened ≡ all_happened T → places ≡ corruptions T
    → HasPartner T words partner → HasPartnerAmong happened places words partner
partner_among T happened places words partner is_happened is_places (inl has) = inl (record {
  args = has.args;
  args_are = has.args_are;
  among = subst (λ (hs : List Happened). Contains hs (record { name = partner.atom.event.word; args = has.args })) (sym is_happened)
      (among_happened T partner.atom.event.word has.args has.has_happened);
})
partner_among T happened places words partner is_happened is_places (inr shown) = inr (rw is_places shown.is_open_now)

-- an event breach of a trace stays one, and one of a longer trace at an earlier event is one of the trace
breach_still : (decls : List Decl) (T more : List Entry) (event partner : ℕ) → IsEventBreach decls T event partner → IsEventBreach decls (T ++ more) event partner
breach_still decls T more event partner breach =
    let within = slice_get_within T event (Event breach.instance breach.principal breach.name breach.args) breach.stands in
    record {
      instance = breach.instance;
      principal = breach.principal;
      name = breach.name;
      args = breach.args;
      stands = slice_get-prefix T more event (Event breach.instance breach.principal breach.name breach.args) breach.stands;
      declaration = breach.declaration;
      declared = breach.declared;
      partner = breach.partner;
      is_partner = breach.is_partner;
      fails = subst (λ (X : List Entry). HasPartner X (event_words breach.declaration breach.args) breach.partner → ⊥) (sym (take-append-le event T more (omega (arith, within)))) breach.fails;
    }

stands_before : (T : List Entry) (more : List Entry) (i : ℕ) (e : Entry) → i < length T → slice_get (T ++ more) i ≡ Some e → slice_get T i ≡ Some e
stands_before [] more i e within at = absurd (omega (arith, within))
stands_before (x ∷ T) more zero e within at = at
stands_before (x ∷ T) more (suc i) e within at = stands_before T more i e (omega (arith, within)) at

breach_before : (decls : List Decl) (T more : List Entry) (event partner : ℕ) → event < length T → IsEventBreach decls (T ++ more) event partner → IsEventBreach decls T event partner
breach_before decls T more event partner within breach = record {
  instance = breach.instance;
  principal = breach.principal;
  name = breach.name;
  args = breach.args;
  stands = stands_before T more event (Event breach.instance breach.principal breach.name breach.args) within breach.stands;
  declaration = breach.declaration;
  declared = breach.declared;
  partner = breach.partner;
  is_partner = breach.is_partner;
  fails = subst (λ (X : List Entry). HasPartner X (event_words breach.declaration breach.args) breach.partner → ⊥) (take-append-le event T more (omega (arith, within))) breach.fails;
}

-- the event that precedes is an earlier one
earlier_event : (event partner limit : ℕ) → Precedes event partner limit 0 → event < limit
earlier_event event partner limit (inl less) = less
earlier_event event partner limit (inr same) = absurd (omega (arith, same.1))

pub lists_none : (decls : List Decl) → ListsLacks decls [] 0 0 []
lists_none decls = record {
  in_order = in_order_none is_before;
  each = λ lack within. absurd (in_none lack within);
  before = λ lack within. absurd (in_none lack within);
  all = λ event partner breach precedes. absurd (omega (arith, earlier_event event partner 0 precedes));
}

pub lists_still : (decls : List Decl) (T more : List Entry) (lacks : List Lack) → ListsLacks decls T (length T) 0 lacks → ListsLacks decls (T ++ more) (length T) 0 lacks
lists_still decls T more lacks lists = record {
  in_order = lists.in_order;
  each = λ lack within. breach_still decls T more lack.event lack.partner (lists.each lack within);
  before = lists.before;
  all = λ event partner breach precedes. lists.all event partner (breach_before decls T more event partner (earlier_event event partner (length T) precedes) breach) precedes;
}

-- an entry of which no partner is asked
pub lists_past : (decls : List Decl) (T : List Entry) (index : ℕ) (lacks : List Lack) → ((partner : ℕ) → IsEventBreach decls T index partner → ⊥)
    → ListsLacks decls T index 0 lacks → ListsLacks decls T (index + 1) 0 lacks
lists_past decls T index lacks nothing lists = record {
  in_order = lists.in_order;
  each = lists.each;
  before = λ lack within. inl (let less = earlier_event lack.event lack.partner index (lists.before lack within) in omega (arith, less));
  all = λ event partner breach precedes. let less = earlier_event event partner (index + 1) precedes in elim (cases_order event index) [
    | inl same ↦ absurd (nothing partner (subst (λ n. IsEventBreach decls T n partner) same breach))
    | inr order ↦ elim order [ inl before ↦ lists.all event partner breach (inl before) | inr after ↦ absurd (omega (arith, less, after)) ]
  ];
}

-- no partner has number 0
pub lists_start : (decls : List Decl) (T : List Entry) (index : ℕ) (lacks : List Lack) → ListsLacks decls T index 0 lacks → ListsLacks decls T index 1 lacks
lists_start decls T index lacks lists = record {
  in_order = lists.in_order;
  each = lists.each;
  before = λ lack within. inl (earlier_event lack.event lack.partner index (lists.before lack within));
  all = λ event partner breach precedes. elim precedes [
    | inl less ↦ lists.all event partner breach (inl less)
    | inr same ↦ absurd (omega (arith, same.1, breach.is_partner.0))
  ];
}

-- the declaration and the arguments of the event at an index are one
one_declaration : (decls : List Decl) (T : List Entry) (index other number : ℕ) (event : EventDecl) (args : List Term) (happened : List Happened) (places : List Place)
    → IsEventAt decls T index event args happened places → (breach : IsEventBreach decls T other number) → other ≡ index → (breach.declaration ≡ event) × (breach.args ≡ args)
one_declaration decls T index other number event args happened places is_at breach same =
    let stands : slice_get T index ≡ Some (Event breach.instance breach.principal breach.name breach.args) =
    subst (λ n. slice_get T n ≡ Some (Event breach.instance breach.principal breach.name breach.args)) same breach.stands in
    let names : breach.name ≡ is_at.name = cc (stands, is_at.stands) in
    let args_are : breach.args ≡ args = cc (stands, is_at.stands) in
    let declared : event_named decls is_at.name ≡ Some breach.declaration = subst (λ n. event_named decls n ≡ Some breach.declaration) names breach.declared in
    (cc (declared, is_at.declared), args_are)

-- after the last partner of a declaration comes the next event
pub lists_end : (decls : List Decl) (T : List Entry) (index : ℕ) (event : EventDecl) (args : List Term) (happened : List Happened) (places : List Place) (lacks : List Lack)
    → IsEventAt decls T index event args happened places → ListsLacks decls T index (length event.after + 1) lacks → ListsLacks decls T (index + 1) 0 lacks
lists_end decls T index event args happened places lacks is_at lists = record {
  in_order = lists.in_order;
  each = lists.each;
  before = λ lack within. inl (elim (lists.before lack within) [ inl less ↦ omega (arith, less) | inr same ↦ omega (arith, same.0) ]);
  all = λ other partner breach precedes. let less = earlier_event other partner (index + 1) precedes in elim (cases_order other index) [
    | inl same ↦
        let declared = (one_declaration decls T index other partner event args happened places is_at breach same).0 in
        let within = slice_get_within breach.declaration.after (partner - 1) breach.partner breach.is_partner.1 in
        lists.all other partner breach (inr (same, omega (arith, within, breach.is_partner.0, ap (λ (d : EventDecl). length d.after) declared)))
    | inr order ↦ elim order [ inl before ↦ lists.all other partner breach (inl before) | inr after ↦ absurd (omega (arith, less, after)) ]
  ];
}

-- the order of two partners
before_place : (a b c d : ℕ) → Precedes a b c d → (nat_lt a c || ((a == c) && nat_lt b d)) ≡ true
before_place a b c d (inl less) = rw (lt-ltb a c less) refl
before_place a b c d (inr same) = rw (eq-eqb a c same.0, lt-ltb b d same.1) (or-true (nat_lt a c))

precedes_next : (event partner index number : ℕ) → Precedes event partner index number → Precedes event partner index (number + 1)
precedes_next event partner index number (inl less) = inl less
precedes_next event partner index number (inr same) = inr (same.0, omega (arith, same.1))

precedes_last : (event partner index number : ℕ) → Precedes event partner index (number + 1) → Precedes event partner index number ⊎ ((event ≡ index) × (partner ≡ number))
precedes_last event partner index number (inl less) = inl (inl less)
precedes_last event partner index number (inr same) = elim (cases_order partner number) [
  | inl last ↦ inr (same.0, last)
  | inr order ↦ elim order [ inl less ↦ inl (inr (same.0, less)) | inr more ↦ absurd (omega (arith, same.1, more)) ]
]

-- the partner of this number, where its place is one less
partner_at : (event : EventDecl) (place : ℕ) (partner other : Partner) → slice_get event.after place ≡ Some partner → slice_get event.after (place + 1 - 1) ≡ Some other → partner ≡ other
partner_at event place partner other at at' =
    let same : place + 1 - 1 ≡ place = omega arith in
    cc (at, subst (λ n. slice_get event.after n ≡ Some other) same at')

place_again : (event : EventDecl) (place : ℕ) (partner : Partner) → slice_get event.after place ≡ Some partner → slice_get event.after (place + 1 - 1) ≡ Some partner
place_again event place partner at =
    let same : place ≡ place + 1 - 1 = omega arith in
    subst (λ n. slice_get event.after n ≡ Some partner) same at

-- a partner that is there
pub lists_there : (decls : List Decl) (T : List Entry) (index place : ℕ) (event : EventDecl) (args : List Term) (happened : List Happened) (places : List Place) (partner : Partner) (lacks : List Lack)
    → IsEventAt decls T index event args happened places → slice_get event.after place ≡ Some partner → HasPartner (take index T) (event_words event args) partner
    → ListsLacks decls T index (place + 1) lacks → ListsLacks decls T index (place + 1 + 1) lacks
lists_there decls T index place event args happened places partner lacks is_at at there lists = record {
  in_order = lists.in_order;
  each = lists.each;
  before = λ lack within. precedes_next lack.event lack.partner index (place + 1) (lists.before lack within);
  all = λ other number breach precedes. elim (precedes_last other number index (place + 1) precedes) [
    | inl earlier ↦ lists.all other number breach earlier
    | inr last ↦
        let one = one_declaration decls T index other number event args happened places is_at breach last.0 in
        let at' : slice_get event.after (place + 1 - 1) ≡ Some breach.partner =
        subst (λ n. slice_get event.after (n - 1) ≡ Some breach.partner) last.1 (subst (λ (d : EventDecl). slice_get d.after (number - 1) ≡ Some breach.partner) one.0 breach.is_partner.1) in
        let fails : HasPartner (take index T) (event_words event args) partner → ⊥ =
        subst (λ (p : Partner). HasPartner (take index T) (event_words event args) p → ⊥) (sym (partner_at event place partner breach.partner at at'))
        (subst (λ (d : EventDecl). HasPartner (take index T) (event_words d args) breach.partner → ⊥) one.0
        (subst (λ (xs : List Term). HasPartner (take index T) (event_words breach.declaration xs) breach.partner → ⊥) one.1
        (subst (λ n. HasPartner (take n T) (event_words breach.declaration breach.args) breach.partner → ⊥) last.0 breach.fails))) in
        absurd (fails there)
  ];
}

-- a partner that is lacking
pub lists_lacking : (decls : List Decl) (T : List Entry) (index place : ℕ) (event : EventDecl) (args : List Term) (happened : List Happened) (places : List Place) (partner : Partner) (lacks : List Lack) (lack : Lack)
    → IsEventAt decls T index event args happened places → slice_get event.after place ≡ Some partner → (HasPartner (take index T) (event_words event args) partner → ⊥)
    → lack ≡ record { event = index; partner = place + 1 } → ListsLacks decls T index (place + 1) lacks → ListsLacks decls T index (place + 1 + 1) (lacks ++ lack ∷ [])
lists_lacking decls T index place event args happened places partner lacks lack is_at at fails is lists = record {
  in_order = in_order_push is_before lacks lack lists.in_order (λ x within. rw is (before_place x.event x.partner index (place + 1) (lists.before x within)));
  each = λ x within. elim (in_push lacks lack x within) [
    | inl before ↦ lists.each x before
    | inr last ↦ subst (λ (y : Lack). IsEventBreach decls T y.event y.partner) (sym is ∙ last) (record {
      instance = is_at.instance;
      principal = is_at.principal;
      name = is_at.name;
      args = args;
      stands = is_at.stands;
      declaration = event;
      declared = is_at.declared;
      partner = partner;
      is_partner = (omega arith, place_again event place partner at);
      fails = fails;
    })
  ];
  before = λ x within. elim (in_push lacks lack x within) [
    | inl before ↦ precedes_next x.event x.partner index (place + 1) (lists.before x before)
    | inr last ↦ subst (λ (y : Lack). Precedes y.event y.partner index (place + 1 + 1)) (sym is ∙ last) (inr (refl, omega arith))
  ];
  all = λ other number breach precedes. elim (precedes_last other number index (place + 1) precedes) [
    | inl earlier ↦ Contains-append_left lacks (lack ∷ []) (record { event = other; partner = number }) (lists.all other number breach earlier)
    | inr last ↦
        let same : lack ≡ record { event = other; partner = number } = is ∙ cc (last.0, last.1) in
        subst (λ (y : Lack). Contains (lacks ++ lack ∷ []) y) same (Contains-push lacks lack)
  ];
}
