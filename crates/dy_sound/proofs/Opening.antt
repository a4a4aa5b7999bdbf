-- An instance that begins: what it knows at first holds.
use Rattle.std.proofs.Common.{◌≡◌, ℕ, zero, suc, ◌<◌, List, [], ◌∷◌, ◌++◌, length, take, fold, Contains, Option, Some, None, if◌then◌else◌, inl, inr, refl, sym, ap, subst, arith}
use Rattle.std.specs.Option.{option_and_then, option_map_or, option_to_list, is_some}
use Rattle.std.specs.List.{slice_get}
use Rattle.std.proofs.lemmas.List.{append-nil, append_assoc}
use Rattle.std.proofs.lemmas.List.Elements.{Contains-append_cases}
use Rattle.dy_term.specs.Terms as trees
use Rattle.dy_term.specs.Terms.{Term}
use Rattle.dy_label.specs.Words.{Choice, Prior}
use Rattle.dy_types.specs.Claims.{plain}
use Rattle.dy_types.specs.Facts.{first_of}
use Rattle.dy_syntax.specs.Names.{Id}
use Rattle.dy_syntax.specs.Statements.{OnPart, Statement, Handler}
use Rattle.dy_syntax.specs.Files.{Decl}
use Rattle.dy_typing.specs.Names.{Setting, setting_of}
use Rattle.dy_typing.specs.Knowledge.{Knowledge, self_alone, known_at, bind, IsWeakerKnowledge}
use Rattle.dy_typing.specs.Effects.{match_state, bind_plain, bound_first, start_of}
use Rattle.dy_typing.specs.Typing as typing
use Rattle.dy_typing.specs.Typing.{begins, weakens, goes_on}
use Rattle.dy_entry.specs.Entries.{Entry, Setup, Start, Fresh, Message, State, Event, Cert, End, Corrupt, Forge, Inject, Skip}
use Rattle.dy_entry.specs.ValueLabels.{label_of}
use Rattle.dy_eval.specs.declared.written.Written.{Written}
use Rattle.dy_eval.specs.Names.{Names, write}
use Rattle.dy_eval.specs.Starts.{names_written, message_written, message_in, opening}
use Rattle.dy_traces.specs.Following.{message_at, MayReceive}
use Rattle.dy_sound.specs.Flows.{IsShown}
use Rattle.dy_sound.specs.Valid.{IsValid, MayBeKnown}
use Rattle.dy_sound.specs.Names.{value_numbered}
use Rattle.dy_sound.specs.Knowledge.{KnownHolds, Holds}
use Rattle.dy_sound.specs.Instances.{IsKnownBefore, IsGoodSoFar}
use Rattle.dy_sound.specs.Good.{IsGood}
use Rattle.dy_sound.specs.LawsBelow.{LawsBelow}
use Rattle.dy_sound.proofs.Lists.{Contains-none, Contains-cases}
use Rattle.dy_sound.proofs.Weaker.{weaker_holds}
use Rattle.dy_sound.proofs.Bound.{unknown_holds, bound_holds}
use Rattle.dy_sound.proofs.DerivedValues.{flows_to_shown}

-- What is known after no statement is no stronger than what is known at the start.
pub weaker_than_start : LawsBelow → (setting : Setting) (start : Knowledge) (done : List Statement) (k : Knowledge)
    → typing.Derives setting start done k → done ≡ [] → IsWeakerKnowledge start k
weaker_than_start below setting start _ _ begins none = below.no_weaker_than_itself start
weaker_than_start below setting start _ _ (weakens {done} {k} weaker derived is) none =
    below.weaker_onward start k weaker (weaker_than_start below setting start done k derived none) is
weaker_than_start below setting start _ _ (goes_on {done} {k} statement derived met) none = absurd (not_none done statement none) where
  not_none : (xs : List Statement) (x : Statement) → xs ++ x ∷ [] ≡ [] → ⊥
  not_none [] x is = cc
  not_none (y ∷ ys) x is = cc

-- What is known before the first statement or the `on` part is no stronger than what is bound first.
first_known : LawsBelow → (decls : List Decl) (handler : Handler) (on : Option OnPart) → handler.on ≡ on → (k : Knowledge)
    → IsKnownBefore decls handler (if is_some on then 0 else 1) k → IsWeakerKnowledge (bound_first handler) k
first_known below decls handler (Some on) is k known = subst (λ (first : Knowledge). IsWeakerKnowledge first k) known (below.no_weaker_than_itself k)
first_known below decls handler None is k known =
    let same : start_of decls handler ≡ bound_first handler =
    ap (λ (on : Option OnPart). option_map_or (λ o. match_state (setting_of decls handler) (bound_first handler) (Some Prior) o.state.word o.pats) on (bound_first handler)) is in
    subst (λ (first : Knowledge). IsWeakerKnowledge first k) same
    (weaker_than_start below (setting_of decls handler) (start_of decls handler) (take 0 handler.body) k known refl)

-- The message that an instance receives may be in the attacker's hands.
received_in : (decls : List Decl) (T : List Entry) → IsGood decls T → (index : ℕ) (value : Term) (found : Option Entry)
    → slice_get T index ≡ found → option_and_then message_in found ≡ Some value → MayBeKnown decls T value
received_in decls T good index value None at is = absurd cc
received_in decls T good index value (Some (Message instance sent)) at is =
    let same : sent ≡ value = cc in subst (MayBeKnown decls T) same (good.messages index instance sent at)
received_in decls T good index value (Some (Inject step sent)) at is =
    let same : sent ≡ value = cc in subst (MayBeKnown decls T) same (good.injections index step sent at)
received_in decls T good index value (Some (Setup input)) at is = absurd cc
received_in decls T good index value (Some (Start step handler principal session args message)) at is = absurd cc
received_in decls T good index value (Some (Fresh instance label usage)) at is = absurd cc
received_in decls T good index value (Some (State instance principal session version tag fields)) at is = absurd cc
received_in decls T good index value (Some (Event instance principal name args)) at is = absurd cc
received_in decls T good index value (Some (Cert instance principal usage key)) at is = absurd cc
received_in decls T good index value (Some (End instance outcome)) at is = absurd cc
received_in decls T good index value (Some (Corrupt step corruption)) at is = absurd cc
received_in decls T good index value (Some (Forge step)) at is = absurd cc
received_in decls T good index value (Some (Skip step)) at is = absurd cc

module _ (below : LawsBelow) (decls : List Decl) (T : List Entry) where
  name_valid : (ids : List Id) (names : List (List ℕ)) (written : Written) → Contains (names_written ids names) written → IsValid decls T written.bytes
  name_valid [] names written has = absurd (Contains-none written has)
  name_valid (id ∷ ids) [] written has = absurd (Contains-none written has)
  name_valid (id ∷ ids) (name ∷ names) written has = elim (Contains-cases (record { word = id.word; bytes = trees.Name name }) (names_written ids names) written has) [
    | inl is ↦ subst (λ (w : Written). IsValid decls T w.bytes) is tt
    | inr later ↦ name_valid ids names written later
  ]

  message_valid : (received : Option Id) (message : Option Term) → ((value : Term) → message ≡ Some value → MayBeKnown decls T value)
      → (written : Written) → Contains (message_written received message) written → IsValid decls T written.bytes
  message_valid None message known written has = absurd (Contains-none written has)
  message_valid (Some id) None known written has = absurd (Contains-none written has)
  message_valid (Some id) (Some value) known written has = elim (Contains-cases (record { word = id.word; bytes = value }) [] written has) [
    | inl is ↦ subst (λ (w : Written). IsValid decls T w.bytes) is (known value refl).valid
    | inr none ↦ absurd (Contains-none written none)
  ]

  module _ (choice : Choice) where
    plain_holds : (value : Term) → IsShown T (label_of T value) → KnownHolds decls T choice value plain
    plain_holds value shown = record {
      is_open_by_hi = flows_to_shown below decls T shown;
      opens_lo = record { opens = λ C over opened. refl };
      claims_hold = λ claim none. absurd (Contains-none claim none);
    }

    name_holds : (principal : List ℕ) → KnownHolds decls T choice (trees.Name principal) plain
    name_holds principal = plain_holds (trees.Name principal) (record { is_open_now = refl })

    -- Before anything is bound but `self`, what is known holds.
    self_holds : (principal : List ℕ) (session : ℕ) → Holds decls T choice (record { principal = principal; session = session; written = [] }) self_alone
    self_holds principal session = record {
      variables = refl;
      is_numbered = record {
        firsts_count = refl;
        values_count = refl;
        firsts_are_bound = self_is_bound;
        args_are_bound = λ fact none arg has. absurd (Contains-none fact none);
      };
      same = self_is_first;
      values_hold = self_known;
      facts_hold = λ fact none. absurd (Contains-none fact none);
    } where
      self_is_bound : (number : ℕ) → number < 1 → first_of (0 ∷ []) number < 1
      self_is_bound zero inside = omega arith
      self_is_bound (suc number) inside = absurd (omega (arith, inside))

      self_is_first : (number : ℕ) → value_numbered (record { principal = principal; session = session; written = [] }) (first_of (0 ∷ []) number)
          ≡ value_numbered (record { principal = principal; session = session; written = [] }) number
      self_is_first zero = refl
      self_is_first (suc number) = refl

      self_known : (number : ℕ) → KnownHolds decls T choice (value_numbered (record { principal = principal; session = session; written = [] }) number) (known_at self_alone number)
      self_known zero = name_holds principal
      self_known (suc number) = unknown_holds decls T choice _

    nothing_more : (names : Names) (k : Knowledge) → Holds decls T choice names k → Holds decls T choice (write names []) k
    nothing_more names k h =
        subst (λ (written : List Written). Holds decls T choice (record { principal = names.principal; session = names.session; written = written }) k)
        (sym (append-nil names.written)) h

    args_hold : (ids : List Id) (args : List (List ℕ)) → length args ≡ length ids → (names : Names) (k : Knowledge)
        → Holds decls T choice names k → Holds decls T choice (write names (names_written ids args)) (fold bind_plain k ids)
    args_hold [] [] same names k h = nothing_more names k h
    args_hold [] (arg ∷ args) same names k h = absurd (omega (arith, same))
    args_hold (id ∷ ids) [] same names k h = absurd (omega (arith, same))
    args_hold (id ∷ ids) (arg ∷ args) same names k h =
        let written : Written = record { word = id.word; bytes = trees.Name arg } in
        let rest = args_hold ids args (omega (arith, same)) (write names (written ∷ [])) (bind k id.word plain) (bound_holds decls T choice names k h written plain (name_holds arg)) in
        subst (λ (all : List Written). Holds decls T choice (record { principal = names.principal; session = names.session; written = all }) (fold bind_plain (bind k id.word plain) ids))
        (append_assoc names.written (written ∷ []) (names_written ids args)) rest

    message_holds : (received : Option Id) (message : Option ℕ) → MayReceive T received message
        → ((value : Term) → option_and_then (message_at T) message ≡ Some value → MayBeKnown decls T value)
        → (names : Names) (k : Knowledge) → Holds decls T choice names k
        → Holds decls T choice (write names (message_written received (option_and_then (message_at T) message))) (fold bind_plain k (option_to_list received))
    message_holds None None may known names k h = nothing_more names k h
    message_holds None (Some index) may known names k h = absurd may
    message_holds (Some id) None may known names k h = absurd may
    message_holds (Some id) (Some index) may known names k h =
        let value = may.0 in
        subst (λ (found : Option Term). Holds decls T choice (write names (message_written (Some id) found)) (bind k id.word plain)) (sym may.1)
        (bound_holds decls T choice names k h (record { word = id.word; bytes = value }) plain (plain_holds value (known value may.1).shown))

  received_known : IsGood decls T → (message : Option ℕ) (value : Term) → option_and_then (message_at T) message ≡ Some value → MayBeKnown decls T value
  received_known good None value is = absurd cc
  received_known good (Some index) value is = received_in decls T good index value (slice_get T index) refl is

  -- An instance that may begin is good so far.
  pub opening_is_good : IsGood decls T → (X : List Entry) (handler : Handler) (principal : List ℕ) (session : ℕ) (args : List (List ℕ)) (message : Option ℕ)
      → length args ≡ length handler.args → MayReceive T handler.recv message
      → IsGoodSoFar decls T X handler (opening decls handler principal session args (option_and_then (message_at T) message))
  opening_is_good good X handler principal session args message as_many may = record {
    values_are_valid = λ written has. elim (Contains-append_cases (names_written handler.args args) (message_written handler.recv (option_and_then (message_at T) message)) written has) [
      | inl name ↦ name_valid handler.args args written name
      | inr received ↦ message_valid handler.recv (option_and_then (message_at T) message) (received_known good message) written received
    ];
    knowledge_holds = λ k known choice agrees.
        let start : Names = record { principal = principal; session = session; written = [] } in
        let bound = args_hold choice handler.args args as_many start self_alone (self_holds choice principal session) in
        let first = message_holds choice handler.recv message may (received_known good message) (write start (names_written handler.args args)) (fold bind_plain self_alone handler.args) bound in
        weaker_holds below decls T choice _ (bound_first handler) k (first_known below decls handler handler.on refl k known) first;
  }
