-- Lowe's schedule on the repaired file is a good trace, though eve is corrupted.
use Rattle.std.proofs.Common.{◌≡◌, ℕ, zero, suc, Bool, true, false, ◌&&◌, ◌||◌, List, [], ◌∷◌, take, Contains, Option, Some, None, inl, inr, refl, ap, sym, ◌∙◌, subst, codes, arith}
use Rattle.std.specs.List.{slice_get}
use Rattle.std.proofs.lemmas.Bool.{or_left}
use Rattle.dy_term.specs.Terms.{Term, Name, Nonce, Pk}
use Rattle.dy_term.specs.Tuples.{tagged_tuple}
use Rattle.dy_label.specs.Labels.{Place, Label, One, Join, Principal, Version, is_open}
use Rattle.dy_label.specs.Words as words
use Rattle.dy_label.specs.Words.{Choice, is_word_open}
use Rattle.dy_label.specs.declared.usages.Kind.TheVariants as kinds
use Rattle.dy_label.specs.declared.usages.Usage.{Usage}
use Rattle.dy_label.proofs.WordsLaw.{law_parts, keeps_law-is_word_open}
use Rattle.dy_syntax.specs.Declarations.{Partner, EventDecl}
use Rattle.dy_entry.specs.Entries.{Entry, Setup, Start, Fresh, Message, State, Event, Cert, Inject}
use Rattle.dy_entry.specs.ValueLabels.{label_of, label_of_nonce, IsMade}
use Rattle.dy_traces.specs.Instances.{end_of}
use Rattle.dy_traces.proofs.NeedhamSchroeder.{dec, key, repaired_decls, repaired_case}
use Rattle.dy_traces.proofs.LowesSchedule.{ann, ben, eve, for_both, ciphertext, question}
use Rattle.dy_traces.proofs.LowesRepair.{attempt}
use Rattle.dy_sound.specs.LawsBelow.{LawsBelow}
use Rattle.dy_sound.specs.Usages.{usage_of, usage_of_nonce}
use Rattle.dy_sound.specs.Flows.{Flows, IsShown}
use Rattle.dy_sound.specs.Words.{case_words}
use Rattle.dy_sound.specs.Events.{HasHappenedFor}
use Rattle.dy_sound.specs.Cases.{CaseHolds}
use Rattle.dy_sound.specs.Valid.{IsValid, MayBeKnown}
use Rattle.dy_sound.specs.Good.{IsGood, IsGoodCert, IsGoodState, IsGoodEvent}
use Rattle.dy_sound.proofs.Lists.{Contains-none, Contains-cases}
use Rattle.dy_sound.proofs.DerivedValues.{flows_to_shown}

-- ---- what holds of each entry of a list

-- Each entry has the property at its index.
abbrev Each : (ℕ → Entry → Type 0) → List Entry → Type 0
Each has [] = Unit {0}
Each has (e ∷ es) = has 0 e × Each (λ index. has (suc index)) es

each_at : (has : ℕ → Entry → Type 0) (T : List Entry) → Each has T → (index : ℕ) (e : Entry) → slice_get T index ≡ Some e → has index e
each_at has [] each index e at = absurd cc
each_at has (first ∷ rest) each zero e at = let same : first ≡ e = cc in subst (has 0) same each.0
each_at has (first ∷ rest) each (suc index) e at = each_at (λ i. has (suc i)) rest each.1 index e at

-- what holds of the one element, or of both, of a list
of_one : {A : Type 0} (has : A → Type 0) (x : A) → has x → (y : A) → Contains (x ∷ []) y → has y
of_one has x holds y h = elim (Contains-cases x [] y h) [
  | inl is ↦ subst has is holds
  | inr none ↦ absurd (Contains-none y none)
]

of_both : {A : Type 0} (has : A → Type 0) (x z : A) → has x → has z → (y : A) → Contains (x ∷ z ∷ []) y → has y
of_both has x z first second y h = elim (Contains-cases x (z ∷ []) y h) [
  | inl is ↦ subst has is first
  | inr rest ↦ of_one has z second y rest
]

-- ---- labels

-- who reads a version is its principal
version_opens_principal : (C : List Place) (principal : List ℕ) (session version : ℕ)
    → is_open C (One (Version principal session version)) ≡ true → is_open C (One (Principal principal)) ≡ true
version_opens_principal C principal session version opened =
    let choice : Choice = record {
      principals = λ number. principal;
      session = session;
      prior = version;
      next = suc version;
      rises = omega arith;
    } in
    let parts =
    law_parts (is_word_open choice C words.Prior) (is_word_open choice C words.Next) (is_word_open choice C words.ThisSession)
    (is_word_open choice C (words.Name 0)) (keeps_law-is_word_open choice C) in
    parts.2 (parts.0 opened)

turned : (a b : Bool) → (a || b) ≡ true → (b || a) ≡ true
turned true true h = refl
turned true false h = refl
turned false true h = refl
turned false false h = h

-- ann, who has the key of the reply, may know all of it
reply_readers : (ann_reads eve_reads ben_reads : Bool) → ann_reads ≡ true
    → (true && ((ann_reads || eve_reads) && ((ben_reads || ann_reads) && true))) ≡ true
reply_readers true eve_reads true h = refl
reply_readers true eve_reads false h = refl
reply_readers false eve_reads ben_reads h = absurd cc

-- the partners of an event's declaration
abbrev after_of : Option EventDecl → List Partner
after_of (Some event) = event.after
after_of None = []

-- ---- the trace

module _ (below : LawsBelow) (bytes : List ℕ) where
  abbrev trace : List Entry
  trace = Setup bytes ∷ attempt

  -- what the invariant asks of an entry; of a Start, that its instance has ended
  abbrev GoodAt : ℕ → Entry → Type 0
  GoodAt index (Start step handler principal session args message) = (end : ℕ) × (end_of trace index ≡ Some end)
  GoodAt index (Message instance value) = MayBeKnown repaired_decls trace value
  GoodAt index (Inject step value) = MayBeKnown repaired_decls trace value
  GoodAt index (Cert instance owner usage value) = IsGoodCert repaired_decls trace owner usage value
  GoodAt index (State instance principal session version tag fields) = IsGoodState repaired_decls trace principal session version tag fields
  GoodAt index (Event instance principal name args) = IsGoodEvent repaired_decls trace (take index trace) name args
  GoodAt index e = Unit {0}

  opens_itself : (label : Label) → Flows trace label label
  opens_itself label = record { opens = λ C over opened. opened }

  -- ---- keys

  abbrev key_usage : List ℕ → Usage
  key_usage principal = record { kind = kinds.Pke; name = dec; owners = principal ∷ [] }

  module _ (principal : List ℕ) (start own : ℕ)
      (at : slice_get trace own ≡ Some (Fresh start (One (Principal principal)) (key_usage principal))) where
    label_is : label_of trace (Nonce own) ≡ One (Principal principal)
    label_is = ap label_of_nonce at

    has_usage : usage_of repaired_decls trace (Nonce own) ≡ Some (key_usage principal)
    has_usage = ap usage_of_nonce at

    is_made : IsMade trace own
    is_made = (_, at, refl)

    opens : Flows trace (label_of trace (Nonce own)) (One (Principal principal))
    opens = subst (λ (label : Label). Flows trace label (One (Principal principal))) (sym label_is) (opens_itself (One (Principal principal)))

    is_opened : Flows trace (One (Principal principal)) (label_of trace (Nonce own))
    is_opened = subst (Flows trace (One (Principal principal))) (sym label_is) (opens_itself (One (Principal principal)))

    cert_is_good : IsGoodCert repaired_decls trace principal dec (Pk (Nonce own))
    cert_is_good = record {
      may_be_known = record { valid = is_made; shown = record { is_open_now = refl } };
      belongs = inl (record { key = Nonce own; value_is = refl; has_usage = has_usage; opens = opens });
    }

    version_opens : Flows trace (One (Version principal start 1)) (label_of trace (Nonce own))
    version_opens =
        subst (Flows trace (One (Version principal start 1))) (sym label_is)
        (record { opens = λ C over opened. version_opens_principal C principal start 1 opened })

    key_state_is_good : IsGoodState repaired_decls trace principal start 1 key (Nonce own ∷ [])
    key_state_is_good = record {
      state = _;
      is_declared = refl;
      are_valid = of_one (IsValid repaired_decls trace) (Nonce own) is_made;
      fields_meet = ((is_opened, opens, inl has_usage), tt);
      readers_may_know = of_one (λ (field : Term). Flows trace (One (Version principal start 1)) (label_of trace field)) (Nonce own) version_opens;
      events_stand = λ partner h. absurd (Contains-none partner h);
    }

  -- ---- messages

  eves_nonce_is_made : IsMade trace 18
  eves_nonce_is_made = (_, refl, refl)

  eves_nonce_is_shown : IsShown trace (for_both ann eve)
  eves_nonce_is_shown = record { is_open_now = refl }

  bens_nonce_is_made : IsMade trace 24
  bens_nonce_is_made = (_, refl, refl)

  -- all may know what ann asks, under whichever key
  question_may_be_known : (own : ℕ) → IsMade trace own → MayBeKnown repaired_decls trace (question own)
  question_may_be_known own is_made = record {
    valid = (is_made, (tt, (eves_nonce_is_made, tt)), inr (record { is_open_now = refl }));
    shown = record { is_open_now = refl };
  }

  abbrev reply_fields : List Term
  reply_fields = Nonce 18 ∷ Nonce 24 ∷ Name ben ∷ []

  bens_nonce_turned : Flows trace (Join (One (Principal ann)) (One (Principal ben))) (for_both ben ann)
  bens_nonce_turned = record { opens = λ C over opened. turned (is_open C (One (Principal ann))) (is_open C (One (Principal ben))) opened }

  bens_nonce_turned_back : Flows trace (for_both ben ann) (Join (One (Principal ann)) (One (Principal ben)))
  bens_nonce_turned_back = record { opens = λ C over opened. turned (is_open C (One (Principal ben))) (is_open C (One (Principal ann))) opened }

  -- ben's reply is by its case: the event stands before it, and its nonces are for ann and ben
  reply_is_sealed : CaseHolds repaired_decls trace (Nonce 2) (tagged_tuple (codes "reply") reply_fields)
  reply_is_sealed = record {
    usage = key_usage ann;
    has_usage = refl;
    tag = codes "reply";
    fields = reply_fields;
    message_is = refl;
    case = repaired_case;
    is_declared = refl;
    fields_meet = (flows_to_shown below repaired_decls trace eves_nonce_is_shown, ((bens_nonce_turned, bens_nonce_turned_back), ((ben, refl), tt)));
    events_stand = of_one (HasHappenedFor trace (case_words repaired_decls (ann ∷ []) repaired_case reply_fields)) _ (record {
      args = Name ben ∷ Name ann ∷ Nonce 24 ∷ [];
      args_are = refl;
      has_happened = record { index = 25; instance = 23; principal = ben; stands = refl };
    });
  }

  reply_may_be_known : MayBeKnown repaired_decls trace (ciphertext 2 (codes "reply") reply_fields)
  reply_may_be_known = record {
    valid = (
      (_, refl, refl),
      (tt, (eves_nonce_is_made, (bens_nonce_is_made, tt))),
      inl (record {
        key = Nonce 2;
        to_is = refl;
        readers_may_know = record { opens = λ C over opened. reply_readers (is_open C (One (Principal ann))) (is_open C (One (Principal eve))) (is_open C (One (Principal ben))) opened };
        case_holds = reply_is_sealed;
      }),
    );
    shown = record { is_open_now = refl };
  }

  -- ---- states and the event

  asked_is_good : IsGoodState repaired_decls trace ann 17 1 (codes "Asked") (Nonce 18 ∷ Name eve ∷ [])
  asked_is_good = record {
    state = _;
    is_declared = refl;
    are_valid = of_both (IsValid repaired_decls trace) (Nonce 18) (Name eve) eves_nonce_is_made tt;
    fields_meet = ((opens_itself _, opens_itself _), ((eve, refl), tt));
    readers_may_know =
        of_both (λ (field : Term). Flows trace (One (Version ann 17 1)) (label_of trace field)) (Nonce 18) (Name eve)
        (flows_to_shown below repaired_decls trace eves_nonce_is_shown) (record { opens = λ C over opened. refl });
    events_stand = λ partner h. absurd (Contains-none partner h);
  }

  replied_is_good : IsGoodState repaired_decls trace ben 23 1 (codes "Replied") (Nonce 24 ∷ Name ann ∷ [])
  replied_is_good = record {
    state = _;
    is_declared = refl;
    are_valid = of_both (IsValid repaired_decls trace) (Nonce 24) (Name ann) bens_nonce_is_made tt;
    fields_meet = ((opens_itself _, opens_itself _), ((ann, refl), tt));
    readers_may_know =
        of_both (λ (field : Term). Flows trace (One (Version ben 23 1)) (label_of trace field)) (Nonce 24) (Name ann)
        (record { opens = λ C over opened. or_left (is_open C (One (Principal ben))) (is_open C (One (Principal ann))) (version_opens_principal C ben 23 1 opened) })
        (record { opens = λ C over opened. refl });
    events_stand = λ partner h. absurd (Contains-none partner h);
  }

  -- ben's event has no partner
  event_is_good : IsGoodEvent repaired_decls trace (take 25 trace) (codes "Reply") (Name ben ∷ Name ann ∷ Nonce 24 ∷ [])
  event_is_good = record {
    are_valid = λ arg h. elim (Contains-cases (Name ben) (Name ann ∷ Nonce 24 ∷ []) arg h) [
      | inl is ↦ subst (IsValid repaired_decls trace) is tt
      | inr rest ↦ of_both (IsValid repaired_decls trace) (Name ann) (Nonce 24) tt bens_nonce_is_made arg rest
    ];
    follows = λ event is partner h.
        absurd (Contains-none partner (subst (λ (partners : List Partner). Contains partners partner) (sym (ap after_of is)) h));
  }

  -- ---- all of it

  each_is_good : Each GoodAt trace
  each_is_good = (
    tt,
    (
      (5, refl),
      (
        tt,
        (
          cert_is_good ann 1 2 refl,
          (
            key_state_is_good ann 1 2 refl,
            (
              tt,
              (
                (10, refl),
                (
                  tt,
                  (
                    cert_is_good ben 6 7 refl,
                    (
                      key_state_is_good ben 6 7 refl,
                      (
                        tt,
                        (
                          (15, refl),
                          (
                            tt,
                            (
                              cert_is_good eve 11 12 refl,
                              (
                                key_state_is_good eve 11 12 refl,
                                (
                                  tt,
                                  (
                                    tt,
                                    (
                                      (21, refl),
                                      (
                                        tt,
                                        (
                                          question_may_be_known 12 (_, refl, refl),
                                          (
                                            asked_is_good,
                                            (
                                              tt,
                                              (
                                                question_may_be_known 7 (_, refl, refl),
                                                (
                                                  (28, refl),
                                                  (
                                                    tt,
                                                    (
                                                      event_is_good,
                                                      (
                                                        reply_may_be_known,
                                                        (
                                                          replied_is_good,
                                                          (
                                                            tt,
                                                            ((30, refl), (tt, tt)),
                                                          ),
                                                        ),
                                                      ),
                                                    ),
                                                  ),
                                                ),
                                              ),
                                            ),
                                          ),
                                        ),
                                      ),
                                    ),
                                  ),
                                ),
                              ),
                            ),
                          ),
                        ),
                      ),
                    ),
                  ),
                ),
              ),
            ),
          ),
        ),
      ),
    ),
  )

  pub repair_is_good : IsGood repaired_decls trace
  repair_is_good = record {
    messages = λ index instance value at. each_at GoodAt trace each_is_good index _ at;
    injections = λ index step value at. each_at GoodAt trace each_is_good index _ at;
    certs = λ index instance owner usage value at. each_at GoodAt trace each_is_good index _ at;
    states = λ index instance principal session version tag fields at. each_at GoodAt trace each_is_good index _ at;
    events = λ index instance principal name args at. each_at GoodAt trace each_is_good index _ at;
    instances = λ instance handler left unfinished.
        let ended = each_at GoodAt trace each_is_good instance _ unfinished.stands in
        let both : None ≡ Some ended.0 = sym unfinished.has_no_end ∙ ended.1 in
        absurd cc;
  }
