-- A good trace with one entry more.
use Rattle.std.proofs.Common.{◌≡◌, ℕ, zero, suc, ◌<◌, Bool, true, false, List, [], ◌∷◌, ◌++◌, length, take, Contains, Option, Some, None, unwrap_or, inl, inr, refl, sym, ap, subst, ◌∙◌, arith}
use Rattle.std.specs.Option.{option_map, option_and_then}
use Rattle.std.specs.List.{slice_get}
use Rattle.dy_term.specs.Terms as trees
use Rattle.dy_term.specs.Terms.{Term}
use Rattle.dy_label.specs.Labels.{One, Principal}
use Rattle.dy_label.specs.declared.usages.Kind as kind
use Rattle.dy_label.specs.declared.usages.Kind.TheVariants as kinds
use Rattle.dy_label.specs.declared.usages.Usage.{Usage}
use Rattle.dy_label.specs.Labels.{Label}
use Rattle.dy_syntax.specs.Statements.{Handler}
use Rattle.dy_syntax.specs.Files.{Decl}
use Rattle.dy_entry.specs.Entries.{Entry, Message, State, Event, Cert, Inject}
use Rattle.dy_entry.specs.ValueLabels.{HasMadeNonces}
use Rattle.dy_eval.specs.declared.written.Written.{Written}
use Rattle.dy_eval.specs.Names.{Names}
use Rattle.dy_eval.specs.Lines.{kind_of_usage}
use Rattle.dy_eval.specs.Runs.{Left}
use Rattle.dy_eval.specs.Starts.{opening}
use Rattle.dy_traces.specs.Instances.{is_item_of, items_of, is_end_of}
use Rattle.dy_traces.specs.Following.{message_at}
use Rattle.dy_sound.specs.Usages.{usage_with}
use Rattle.dy_sound.specs.Words.{state_words}
use Rattle.dy_sound.specs.Valid.{MayBeKnown}
use Rattle.dy_sound.specs.Names.{value_numbered}
use Rattle.dy_sound.specs.Instances.{left_after, IsUnfinished, IsGoodSoFar}
use Rattle.dy_sound.specs.Good.{IsKeyOfKind, IsGoodCert, IsGoodState, IsGoodEvent, IsGood}
use Rattle.dy_sound.specs.LawsBelow.{LawsBelow}
use Rattle.dy_sound.proofs.Lists.{below_length, in_more, take_before, take_whole}
use Rattle.dy_sound.proofs.Elements.{Contains-at}
use Rattle.dy_sound.proofs.Searches.{none_in_shorter, no_index_more}
use Rattle.dy_sound.proofs.Longer.{flows_to_still, all_meet_still, has_partner_still, is_pk_still, is_vk_still}
use Rattle.dy_sound.proofs.LongerValid.{valid_is_made, valid_still, may_be_known_still}
use Rattle.dy_sound.proofs.LongerKnowledge.{knowledge_still}

written_made : (T : List Entry) (principal : List ℕ) (found : Option Written) → ((w : Written) → found ≡ Some w → HasMadeNonces T w.bytes)
    → HasMadeNonces T (unwrap_or (option_map (λ w. w.bytes) found) (trees.Name principal))
written_made T principal None made = tt
written_made T principal (Some w) made = made w refl

-- Where the nonces of all values that are written are made, so are those of each variable's.
pub numbered_made : (T : List Entry) (names : Names) → ((w : Written) → Contains names.written w → HasMadeNonces T w.bytes)
    → (number : ℕ) → HasMadeNonces T (value_numbered names number)
numbered_made T names made zero = tt
numbered_made T names made (suc number) = written_made T names.principal (slice_get names.written number) (λ w at. made w (Contains-at names.written number w at))

module _ (below : LawsBelow) (decls : List Decl) (T more : List Entry) where
  pub good_so_far_still : (X : List Entry) (handler : Handler) (left : Left) → IsGoodSoFar decls T X handler left → IsGoodSoFar decls (T ++ more) X handler left
  good_so_far_still X handler left good = record {
    values_are_valid = λ written stands. valid_still below decls T more written.bytes (good.values_are_valid written stands);
    knowledge_holds = λ k known choice agrees.
        knowledge_still below decls T more choice left.names k
        (numbered_made T left.names (λ w stands. valid_is_made decls T w.bytes (good.values_are_valid w stands)))
        (good.knowledge_holds k known choice agrees);
  }

  key_of_kind_still : (kind : kind.Kind) (key : Term) (label : Label) (usage : Usage) → HasMadeNonces T key → IsKeyOfKind kind decls T key label usage → IsKeyOfKind kind decls (T ++ more) key label usage
  key_of_kind_still kinds.Pke key label usage made h = is_pk_still below decls T more key label usage made h
  key_of_kind_still kinds.Sig key label usage made h = is_vk_still below decls T more key label usage made h
  key_of_kind_still kinds.Nonce key label usage made h = h
  key_of_kind_still kinds.Aead key label usage made h = h
  key_of_kind_still kinds.Mac key label usage made h = h
  key_of_kind_still kinds.Kdf key label usage made h = h

  pub good_cert_still : (owner usage : List ℕ) (key : Term) → IsGoodCert decls T owner usage key → IsGoodCert decls (T ++ more) owner usage key
  good_cert_still owner usage key good = record {
    may_be_known = may_be_known_still below decls T more key good.may_be_known;
    belongs = key_of_kind_still (kind_of_usage decls usage) key (One (Principal owner)) (usage_with decls usage (owner ∷ []))
        (valid_is_made decls T key good.may_be_known.valid) good.belongs;
  }

  pub good_state_still : (principal : List ℕ) (session version : ℕ) (tag : List ℕ) (fields : List Term)
      → IsGoodState decls T principal session version tag fields → IsGoodState decls (T ++ more) principal session version tag fields
  good_state_still principal session version tag fields good =
      let words = state_words good.state principal session version fields in
      let made : (field : Term) → Contains fields field → HasMadeNonces T field = λ field stands. valid_is_made decls T field (good.are_valid field stands) in
      record {
        state = good.state;
        is_declared = good.is_declared;
        are_valid = λ field stands. valid_still below decls T more field (good.are_valid field stands);
        fields_meet = all_meet_still below decls T more words good.state.fields fields made good.fields_meet;
        readers_may_know = λ field stands. flows_to_still below decls T more field (made field stands) (good.readers_may_know field stands);
        events_stand = λ partner stands. has_partner_still below decls T more words partner (good.events_stand partner stands);
      }

  pub good_event_still : (before : List Entry) (name : List ℕ) (args : List Term) → IsGoodEvent decls T before name args → IsGoodEvent decls (T ++ more) before name args
  good_event_still before name args good = record {
    are_valid = λ arg stands. valid_still below decls T more arg (good.are_valid arg stands);
    follows = good.follows;
  }

-- An entry more puts nothing for an instance that was there: the instance is unfinished in the shorter trace too, and
-- has the same left.
pub unfinished_before : (decls : List Decl) (T : List Entry) (e : Entry) (instance : ℕ) (handler : Handler) (left : Left)
    → is_item_of instance e ≡ false → instance < length T
    → IsUnfinished decls (T ++ e ∷ []) instance handler left → IsUnfinished decls T instance handler left
unfinished_before decls T e instance handler left no_item inside h =
    let shorter : take instance (T ++ e ∷ []) ≡ take instance T = take_before T (e ∷ []) instance (omega (arith, inside)) in
    let same_items = no_index_more (is_item_of instance) 0 T e no_item in
    record {
      step = h.step;
      name = h.name;
      principal = h.principal;
      session = h.session;
      args = h.args;
      message = h.message;
      stands = elim (in_more T e instance _ h.stands) [ inl before ↦ before | inr last ↦ let at = last.0 in absurd (omega (arith, inside, at)) ];
      is_declared = h.is_declared;
      has_no_end = none_in_shorter (is_end_of instance) T (e ∷ []) h.has_no_end;
      has_left =
          subst (λ (X : List Entry). left_after X (opening decls handler h.principal h.session h.args (option_and_then (message_at X) h.message)) (items_of T instance) ≡ Some left) shorter
          (subst (λ (items : List ℕ). left_after (take instance (T ++ e ∷ [])) (opening decls handler h.principal h.session h.args (option_and_then (message_at (take instance (T ++ e ∷ []))) h.message)) items ≡ Some left) same_items h.has_left);
    }

-- What a good trace asks of its last entry. It is what its kind asks and, of the instance that puts it or starts by
-- it, what is asked of unfinished instances.
pub record IsGoodLast (decls : List Decl) (T : List Entry) (e : Entry) : Type 0 where
  pub message : (instance : ℕ) (value : Term) → e ≡ Message instance value → MayBeKnown decls (T ++ e ∷ []) value
  pub injection : (step : ℕ) (value : Term) → e ≡ Inject step value → MayBeKnown decls (T ++ e ∷ []) value
  pub cert : (instance : ℕ) (owner usage : List ℕ) (key : Term) → e ≡ Cert instance owner usage key → IsGoodCert decls (T ++ e ∷ []) owner usage key
  pub state : (instance : ℕ) (principal : List ℕ) (session version : ℕ) (tag : List ℕ) (fields : List Term)
      → e ≡ State instance principal session version tag fields → IsGoodState decls (T ++ e ∷ []) principal session version tag fields
  pub event : (instance : ℕ) (principal name : List ℕ) (args : List Term) → e ≡ Event instance principal name args → IsGoodEvent decls (T ++ e ∷ []) T name args
  pub own_instance : (instance : ℕ) (handler : Handler) (left : Left) → is_item_of instance e ≡ true → instance < length T
      → IsUnfinished decls (T ++ e ∷ []) instance handler left → IsGoodSoFar decls (T ++ e ∷ []) (take instance T) handler left
  pub new_instance : (handler : Handler) (left : Left) → IsUnfinished decls (T ++ e ∷ []) (length T) handler left
      → IsGoodSoFar decls (T ++ e ∷ []) T handler left

module _ (below : LawsBelow) (decls : List Decl) (T : List Entry) (e : Entry) (good : IsGood decls T) (last : IsGoodLast decls T e) where
  instance_before : (instance : ℕ) (handler : Handler) (left : Left) (is_own : Bool) → is_item_of instance e ≡ is_own → instance < length T
      → IsUnfinished decls (T ++ e ∷ []) instance handler left → IsGoodSoFar decls (T ++ e ∷ []) (take instance T) handler left
  instance_before instance handler left true is inside h = last.own_instance instance handler left is inside h
  instance_before instance handler left false is inside h =
      good_so_far_still below decls T (e ∷ []) (take instance T) handler left
      (good.instances instance handler left (unfinished_before decls T e instance handler left is inside h))

  each_instance : (instance : ℕ) (handler : Handler) (left : Left)
      → IsUnfinished decls (T ++ e ∷ []) instance handler left → IsGoodSoFar decls (T ++ e ∷ []) (take instance (T ++ e ∷ [])) handler left
  each_instance instance handler left h = elim (in_more T e instance _ h.stands) [
    | inl before ↦
        let inside = below_length T instance _ before in
        subst (λ (X : List Entry). IsGoodSoFar decls (T ++ e ∷ []) X handler left) (sym (take_before T (e ∷ []) instance (omega (arith, inside))))
        (instance_before instance handler left (is_item_of instance e) refl inside h)
    | inr at ↦
        let whole : take instance (T ++ e ∷ []) ≡ T = ap (λ (n : ℕ). take n (T ++ e ∷ [])) at.0 ∙ take_whole T (e ∷ []) in
        subst (λ (X : List Entry). IsGoodSoFar decls (T ++ e ∷ []) X handler left) (sym whole)
        (last.new_instance handler left (subst (λ (i : ℕ). IsUnfinished decls (T ++ e ∷ []) i handler left) at.0 h))
  ]

  each_event : (index instance : ℕ) (principal name : List ℕ) (args : List Term)
      → slice_get (T ++ e ∷ []) index ≡ Some (Event instance principal name args) → IsGoodEvent decls (T ++ e ∷ []) (take index (T ++ e ∷ [])) name args
  each_event index instance principal name args at = elim (in_more T e index _ at) [
    | inl before ↦
        let inside = below_length T index _ before in
        subst (λ (X : List Entry). IsGoodEvent decls (T ++ e ∷ []) X name args) (sym (take_before T (e ∷ []) index (omega (arith, inside))))
        (good_event_still below decls T (e ∷ []) (take index T) name args (good.events index instance principal name args before))
    | inr is ↦
        let whole : take index (T ++ e ∷ []) ≡ T = ap (λ (n : ℕ). take n (T ++ e ∷ [])) is.0 ∙ take_whole T (e ∷ []) in
        subst (λ (X : List Entry). IsGoodEvent decls (T ++ e ∷ []) X name args) (sym whole) (last.event instance principal name args is.1)
  ]

  pub good_with_more : IsGood decls (T ++ e ∷ [])
  good_with_more = record {
    messages = λ index instance value at. elim (in_more T e index _ at) [
      | inl before ↦ may_be_known_still below decls T (e ∷ []) value (good.messages index instance value before)
      | inr is ↦ last.message instance value is.1
    ];
    injections = λ index step value at. elim (in_more T e index _ at) [
      | inl before ↦ may_be_known_still below decls T (e ∷ []) value (good.injections index step value before)
      | inr is ↦ last.injection step value is.1
    ];
    certs = λ index instance owner usage key at. elim (in_more T e index _ at) [
      | inl before ↦ good_cert_still below decls T (e ∷ []) owner usage key (good.certs index instance owner usage key before)
      | inr is ↦ last.cert instance owner usage key is.1
    ];
    states = λ index instance principal session version tag fields at. elim (in_more T e index _ at) [
      | inl before ↦ good_state_still below decls T (e ∷ []) principal session version tag fields (good.states index instance principal session version tag fields before)
      | inr is ↦ last.state instance principal session version tag fields is.1
    ];
    events = each_event;
    instances = each_instance;
  }
