-- What the words of a step name stands in the trace.
use Rattle.std.proofs.Common.{◌≡◌, ℕ, zero, suc, ◌&&◌, ◌==◌, Bool, true, false, List, Option, Some, None, if◌then◌else◌, ◌⊎◌, inl, inr, refl, ap, sym, subst, ◌∙◌, arith}
use Rattle.std.specs.Option.{option_map, option_and_then}
use Rattle.std.specs.List.{slice_get}
use Rattle.std.specs.Str.{bytes_eq}
use Rattle.dy_term.specs.Terms.{Term}
use Rattle.dy_syntax.specs.Plans.{Plan, OnStep}
use Rattle.dy_syntax.specs.Recipes.{Numbered}
use Rattle.dy_entry.specs.Entries.{Entry, Start, Message, Inject}
use Rattle.dy_entry.specs.LookUps.{is_message_of}
use Rattle.dy_eval.specs.Starts.{message_in}
use Rattle.dy_traces.specs.Steps.{step_at}
use Rattle.dy_traces.specs.Instances.{indices_from, IsSessionOf}
use Rattle.dy_traces.specs.Following.{message_at}
use Rattle.dy_core.specs.StepMeaning.{StartStep}
use Rattle.dy_core.specs.Answers.{IsOpened, HasMessage}
use Rattle.dy_plan.specs.Steps.{number_of}
use Rattle.dy_plan.specs.Naming.{OpenedSession, found_at, entry_named, session_opened, session_named, number_for, session_of, counted_from_one, message_of_step, message_named}
use Rattle.dy_plan.specs.Resolving.{if_given}
use Rattle.dy_plan.proofs.Nth.{nth_from}
use Rattle.dy_plan.proofs.Owners.{same_number, and_then_some}
use Rattle.dy_plan.proofs.Resolutions.{StartsBy}

if_some : {A : Type 0} (b : Bool) (x y : A) → (if b then Some x else None) ≡ Some y → (b ≡ true) × (x ≡ y)
if_some true x y is = (refl, cc)
if_some false x y is = absurd cc

both_true : (a b : Bool) → a ≡ true → b ≡ true → (a && b) ≡ true
both_true a b first second = cc

module _ (plan : Plan) (T : List Entry) where
  pair_from : (x index : ℕ) (e : Entry) (o : Option Entry) → slice_get T x ≡ o → option_map {U = ℕ × Entry} (λ (e : Entry). (x, e)) o ≡ Some (index, e) → slice_get T index ≡ Some e
  pair_from x index e None at is = absurd cc
  pair_from x index e (Some other) at is =
      let P : Option (ℕ × Entry) → Type 0 = λ o. elim o [ None ↦ ⊥ | Some found ↦ slice_get T found.0 ≡ Some found.1 ] in
      subst P is at

  stands_at_index : (name : List ℕ) (found : ℕ × Entry) → entry_named plan T name ≡ Some found → slice_get T found.0 ≡ Some found.1
  stands_at_index name found is =
      let index = and_then_some (found_at T) (option_and_then (step_at T) (number_of plan name)) found is in
      pair_from index.0 found.0 found.1 (slice_get T index.0) refl index.2

  opened_by : (index : ℕ) (e : Entry) (s : OpenedSession) (principal : List ℕ) → slice_get T index ≡ Some e → session_opened index e ≡ Some s
      → bytes_eq s.principal principal ≡ true → IsSessionOf T principal s.number
  opened_by index (Start step handler p session args message) s principal at is owner =
      let made : OpenedSession = record { principal = p; number = session } in
      let parts = if_some (session == index) made s is in
      let here = same_number session index parts.0 in
      let number : session ≡ s.number = ap (λ (x : OpenedSession). x.number) parts.1 in
      let own : bytes_eq p principal ≡ true = ap (λ (x : OpenedSession). bytes_eq x.principal principal) parts.1 ∙ owner in
      let same : (session == s.number) ≡ true = ap (λ (n : ℕ). session == n) (sym number) ∙ search arith in
      record {
        start = Start step handler p session args message;
        stands = ap (slice_get T) (sym number ∙ here) ∙ at;
        opens = both_true (bytes_eq p principal) (session == s.number) own same;
      }
  opened_by index e s principal at is owner = absurd cc

  -- the session that a step opened was opened by this principal
  pub session_stands : (principal name : List ℕ) (x : ℕ) → session_of plan T principal name ≡ Some x → IsSessionOf T principal x
  session_stands principal name x is =
      let session = and_then_some (number_for principal) (session_named plan T name) x is in
      let s = session.0 in
      let owner = if_some (bytes_eq s.principal principal) s.number x session.2 in
      let found = and_then_some (λ found. session_opened found.0 found.1) (entry_named plan T name) s session.1 in
      subst (IsSessionOf T principal) owner.1
      (opened_by found.0.0 found.0.1 s principal (stands_at_index name found.0 found.1) found.2 owner.0)

  message_passes : (instance : ℕ) (e : Entry) → is_message_of instance e ≡ true → (value : Term) × (message_in e ≡ Some value)
  message_passes instance (Message other value) is = (value, refl)
  message_passes instance e is = absurd cc

  message_by_number : (instance number x : ℕ) → counted_from_one (indices_from 0 (is_message_of instance) T) number ≡ Some x
      → (value : Term) × (message_at T x ≡ Some value)
  message_by_number instance zero x is = absurd cc
  message_by_number instance (suc k) x is =
      let nth = nth_from (is_message_of instance) 0 T k x is in
      let place = nth.index_is in
      let here : x ≡ nth.place = omega (arith, place) in
      let message = message_passes instance nth.entry nth.passes in
      (message.0, ap (message_at T) here ∙ ap (option_and_then message_in) nth.stands ∙ message.1)

  message_by_entry : (number index x : ℕ) (e : Entry) → slice_get T index ≡ Some e → message_of_step T number index e ≡ Some x
      → (value : Term) × (message_at T x ≡ Some value)
  message_by_entry number index x (Start step handler principal session args message) at is = message_by_number index number x is
  message_by_entry number index x (Inject step value) at is =
      let here = (if_some (number == 1) index x is).1 in
      (value, ap (message_at T) (sym here) ∙ ap (option_and_then message_in) at)
  message_by_entry number index x e at is = absurd cc

  -- at the index of a message that is named stands a message
  pub message_stands : (name : List ℕ) (number x : ℕ) → message_named plan T name number ≡ Some x → (value : Term) × (message_at T x ≡ Some value)
  message_stands name number x is =
      let found = and_then_some (λ found. message_of_step T number found.0 found.1) (entry_named plan T name) x is in
      message_by_entry number found.0.0 x found.0.1 (stands_at_index name found.0 found.1) found.2

-- what a step leaves out, or what stands there
pub given_cases : {X : Type 0} (index_of : X → Option ℕ) (o : Option X) (answer : Option ℕ) → if_given index_of o ≡ Some answer
    → ((o ≡ None) × (answer ≡ None)) ⊎ ((x : X) × (index : ℕ) × (o ≡ Some x) × (index_of x ≡ Some index) × (answer ≡ Some index))
given_cases index_of None answer is = inl (refl, cc)
given_cases {X} index_of (Some x) answer is = by_index (index_of x) refl is
  where
    by_index : (found : Option ℕ) → index_of x ≡ found → option_map Some found ≡ Some answer
        → ((Some x ≡ None) × (answer ≡ None)) ⊎ ((y : X) × (index : ℕ) × (Some x ≡ Some y) × (index_of y ≡ Some index) × (answer ≡ Some index))
    by_index None at is = absurd cc
    by_index (Some index) at is = inr (x, index, refl, at, cc)

module _ (plan : Plan) (T : List Entry) (number : ℕ) (s : StartStep) (by : StartsBy plan T number s) where
  -- the session that a start step goes on was opened by its principal
  pub session_is_opened : IsOpened T s.principal s.session
  session_is_opened =
      elim (given_cases (λ (o : OnStep). session_of plan T by.principal.word o.step.word) by.on s.session by.session_is) [
        | inl none ↦ subst (IsOpened T s.principal) (sym none.1) tt
        | inr some ↦
            let stands = session_stands plan T by.principal.word some.0.step.word some.1 some.3 in
            subst (IsOpened T s.principal) (sym some.4) (subst (λ (p : List ℕ). IsSessionOf T p some.1) (sym by.principal_is) stands)
      ]

  -- the message that it receives stands in the trace
  pub message_is_there : HasMessage T s.message
  message_is_there =
      elim (given_cases (λ (m : Numbered). message_named plan T m.step.word m.number) by.msg s.message by.message_is) [
        | inl none ↦ subst (HasMessage T) (sym none.1) tt
        | inr some ↦ subst (HasMessage T) (sym some.4) (message_stands plan T some.0.step.word some.0.number some.1 some.3)
      ]
