-- One more step of a plan runs.
use Rattle.std.proofs.Common.{◌≡◌, ℕ, zero, suc, ◌+◌, ◌<◌, ◌≤◌, ◌==◌, true, false, List, [], ◌∷◌, ◌++◌, length, take, Option, Some, None, ◌⊎◌, inl, inr, refl, ap, sym, subst, ◌∙◌, arith, length-append}
use Rattle.std.specs.Prelude.{IsSome}
use Rattle.std.specs.Option.{option_and_then, option_map, is_some}
use Rattle.std.specs.List.{slice_get, position}
use Rattle.std.proofs.lemmas.List.{append-nil}
use Rattle.dy_syntax.specs.Plans.{Plan}
use Rattle.dy_entry.specs.Entries.{Entry, Setup, Start, End}
use Rattle.dy_entry.specs.Summaries.{is_start}
use Rattle.dy_traces.specs.Steps.{has_step, IsUnused}
use Rattle.dy_traces.specs.Instances.{is_item_of, is_end_of, end_of, starts_in, IsRunningIn}
use Rattle.dy_traces.proofs.Prefixes.{below_length, in_longer, in_last, take_before, take_whole}
use Rattle.dy_traces.proofs.Searches.{none_found}
use Rattle.dy_plan.specs.Resolving.{entry_of_step}
use Rattle.dy_plan.specs.Completeness.{step_started, step_of_instance, step_of, owner, IsDone}
use Rattle.dy_plan.proofs.Rounds.{position-append}
use Rattle.dy_plan.proofs.Owners.{same_number, and_then_some, of_own_step, of_instance, item_without_step, of_longer, owner_at}
use Rattle.dy_plan.proofs.Resolutions.{entry_has_step}
use Rattle.dy_serial.specs.MirrorRunning.{HasRun}
use Rattle.dy_serial.proofs.Lists.{in_either, in_single, is_false, some_or, below_next}

-- an End is of the step of its instance, and has no step number
of_end : (T : List Entry) (instance : ℕ) (e : Entry) → is_end_of instance e ≡ true → step_of T e ≡ step_of_instance T instance
of_end T instance (End other outcome) is = ap (step_of_instance T) (same_number other instance is)
of_end T instance e is = absurd cc

end_without_step : (instance number : ℕ) (e : Entry) → is_end_of instance e ≡ true → has_step number e ≡ true → ⊥
end_without_step instance number (End other outcome) is has = absurd cc
end_without_step instance number e is has = absurd cc

pub end_longer : (T more : List Entry) (instance : ℕ) → IsSome (end_of T instance) → IsSome (end_of (T ++ more) instance)
end_longer T more instance ends =
    let later = option_map (λ k. length T + k) (position (is_end_of instance) more) in
    ap is_some (position-append (is_end_of instance) T more) ∙ some_or (end_of T instance) later ends

same_some : (a b : ℕ) (o : Option ℕ) → o ≡ Some a → o ≡ Some b → a ≡ b
same_some a b o first second = cc

module _ (plan : Plan) (k : ℕ) (T : List Entry) (run : HasRun plan k T) where
  -- an entry that is of a step is of one of those that have run
  pub of_run : (i : ℕ) (e : Entry) (number : ℕ) → slice_get T i ≡ Some e → step_of T e ≡ Some number → number < k
  of_run zero e number at is =
      let setup : e ≡ Setup run.input = (let first = run.set_up in cc) in
      let none : step_of T e ≡ None = ap (step_of T) setup in
      absurd cc
  of_run (suc i) e number at is =
      let own = run.of_steps (suc i) e (omega arith) at in
      let same = same_some own.0 number (step_of T e) own.1 is in
      subst (λ (n : ℕ). n < k) same own.2

  pub not_next : (i : ℕ) (e : Entry) → slice_get T i ≡ Some e → has_step k e ≡ true → ⊥
  not_next i e at has = let below = of_run i e k at (of_own_step T k e has) in omega (arith, below)

  -- the next step has no entry
  pub next_unused : IsUnused T k
  next_unused = none_found (has_step k) T (λ i e at. is_false (has_step k e) (not_next i e at))

  starts_step : (session number : ℕ) (e : Entry) → starts_in session e ≡ true → step_of T e ≡ Some number → (has_step number e ≡ true) × (is_start e ≡ true)
  starts_step session number (Start step handler principal other args message) starts is =
      let same : step ≡ number = cc in
      (ap (λ (n : ℕ). n == number) same ∙ search arith, refl)
  starts_step session number e starts is = absurd cc

  some_number : (session i : ℕ) (e : Entry) → slice_get T i ≡ Some e → starts_in session e ≡ true → (number : ℕ) × (step_of T e ≡ Some number) × (number < k)
  some_number session zero e at starts =
      let setup : e ≡ Setup run.input = (let first = run.set_up in cc) in
      let none : starts_in session e ≡ false = ap (starts_in session) setup in
      absurd cc
  some_number session (suc i) e at starts = run.of_steps (suc i) e (omega arith) at

  -- no instance runs
  pub all_ended : (session instance : ℕ) → IsRunningIn T session instance → ⊥
  all_ended session instance runs =
      let e = runs.start in
      let own = some_number session instance e runs.stands runs.is_start in
      let started = starts_step session own.0 e runs.is_start own.1 in
      let done = run.done own.0 own.2 in
      let here : instance ≡ done.at = done.one instance e runs.stands started.0 in
      let entry : Some e ≡ Some (entry_of_step plan (take done.at T) own.0) = sym runs.stands ∙ ap (slice_get T) here ∙ done.stands in
      let same : e ≡ entry_of_step plan (take done.at T) own.0 = cc in
      let ends : IsSome (end_of T done.at) = done.ends (ap is_start (sym same) ∙ started.1) in
      let none : end_of T done.at ≡ None = ap (end_of T) (sym here) ∙ runs.goes_on in
      let not : is_some (end_of T done.at) ≡ false = ap is_some none in
      absurd cc

  module _ (more : List Entry)
      (each : (j : ℕ) (e : Entry) → slice_get more j ≡ Some e → (is_item_of (length T) e ≡ true) ⊎ (is_end_of (length T) e ≡ true))
      (started : (j : ℕ) (e : Entry) → slice_get more j ≡ Some e → step_started (entry_of_step plan T k) ≡ Some k)
      (ends : is_start (entry_of_step plan T k) ≡ true → IsSome (end_of ((T ++ entry_of_step plan T k ∷ []) ++ more) (length T))) where
    abbrev own : Entry
    own = entry_of_step plan T k

    abbrev until : List Entry
    until = T ++ own ∷ []

    abbrev whole : List Entry
    whole = until ++ more

    -- an entry that the step added
    abbrev IsAdded : ℕ → Entry → Type 0
    IsAdded i e = ((i ≡ length T) × (e ≡ own)) ⊎ ((length T < i) × ((j : ℕ) × (slice_get more j ≡ Some e)))

    where_stands : (i : ℕ) (e : Entry) → slice_get whole i ≡ Some e → (slice_get T i ≡ Some e) ⊎ IsAdded i e
    where_stands i e at = elim (in_either until more i e at) [
      | inl first ↦ elim (in_either T (own ∷ []) i e first) [
        | inl old ↦ inl old
        | inr last ↦
            let single = in_single own last.0 e last.2 in
            let is = last.1 in
            let zero_is = single.0 in
            inr (inl (omega (arith, is, zero_is), single.1))
      ]
      | inr later ↦
          let is = later.1 in
          let size = length-append T (own ∷ []) in
          inr (inr (omega (arith, is, size), (later.0, later.2)))
    ]

    own_stands : slice_get whole (length T) ≡ Some own
    own_stands = in_longer until more (length T) own (in_last T own)

    old_stands : (i : ℕ) (e : Entry) → slice_get T i ≡ Some e → slice_get whole i ≡ Some e
    old_stands i e at = in_longer until more i e (in_longer T (own ∷ []) i e at)

    old_prefix : (i : ℕ) → i ≤ length T → take i whole ≡ take i T
    old_prefix i within =
        let size = length-append T (own ∷ []) in
        take_before until more i (omega (arith, size, within)) ∙ take_before T (own ∷ []) i within

    old_step : (e : Entry) (number : ℕ) → step_of T e ≡ Some number → step_of whole e ≡ Some number
    old_step e number is = of_longer until more e number (of_longer T (own ∷ []) e number is)

    instance_step : (j : ℕ) (e : Entry) → slice_get more j ≡ Some e → step_of_instance whole (length T) ≡ Some k
    instance_step j e at = ap (option_and_then step_started) own_stands ∙ started j e at

    added_step : (i : ℕ) (e : Entry) → IsAdded i e → step_of whole e ≡ Some k
    added_step i e (inl first) = ap (step_of whole) first.1 ∙ of_own_step whole k own (entry_has_step plan T k)
    added_step i e (inr later) =
        let at = later.1.1 in
        elim (each later.1.0 e at) [
          | inl item ↦ of_instance whole (length T) e item ∙ instance_step later.1.0 e at
          | inr end ↦ of_end whole (length T) e end ∙ instance_step later.1.0 e at
        ]

    added_late : (i : ℕ) (e : Entry) → IsAdded i e → length T ≤ i
    added_late i e (inl first) = let is = first.0 in omega (arith, is)
    added_late i e (inr later) = let is = later.0 in omega (arith, is)

    -- the step of an old entry
    owner_before : (i : ℕ) (e : Entry) (number : ℕ) → slice_get T i ≡ Some e → step_of whole e ≡ Some number → (owner T i ≡ Some number) × (number < k)
    owner_before zero e number at is =
        let setup : e ≡ Setup run.input = (let first = run.set_up in cc) in
        let none : step_of whole e ≡ None = ap (step_of whole) setup in
        absurd cc
    owner_before (suc i) e number at is =
        let old = run.of_steps (suc i) e (omega arith) at in
        let same = same_some old.0 number (step_of whole e) (old_step e old.0 old.1) is in
        (owner_at T (suc i) e at ∙ old.1 ∙ ap Some same, subst (λ (n : ℕ). n < k) same old.2)

    done_before : (number : ℕ) → number < k → IsDone plan whole number
    done_before number below =
        let done = run.done number below in
        let at_below = below_length T done.at _ done.stands in
        let before : take done.at whole ≡ take done.at T = old_prefix done.at (omega (arith, at_below)) in
        let entry = λ (X : List Entry). entry_of_step plan X number in
        record {
          at = done.at;
          stands = old_stands done.at (entry (take done.at T)) done.stands ∙ ap (λ X. Some (entry X)) (sym before);
          one = λ i e at has. elim (where_stands i e at) [
            | inl old ↦ done.one i e old has
            | inr added ↦
                let same = same_some number k (step_of whole e) (of_own_step whole number e has) (added_step i e added) in
                absurd (omega (arith, same, below))
          ];
          ends = λ starts. end_longer until more done.at (end_longer T (own ∷ []) done.at (done.ends (ap (λ X. is_start (entry X)) (sym before) ∙ starts)));
        }

    done_own : IsDone plan whole k
    done_own =
        let size : length T ≤ length T = omega arith in
        let before : take (length T) whole ≡ T = old_prefix (length T) size ∙ ap (take (length T)) (sym (append-nil T)) ∙ take_whole T [] in
        let entry = λ (X : List Entry). entry_of_step plan X k in
        record {
          at = length T;
          stands = own_stands ∙ ap (λ X. Some (entry X)) (sym before);
          one = λ i e at has. elim (where_stands i e at) [
            | inl old ↦ absurd (not_next i e old has)
            | inr added ↦ elim added [
              | inl first ↦ first.0
              | inr later ↦ elim (each later.1.0 e later.1.1) [
                | inl item ↦ absurd (item_without_step (length T) k e item has)
                | inr end ↦ absurd (end_without_step (length T) k e end has)
              ]
            ]
          ];
          ends = λ starts. ends (ap (λ X. is_start (entry X)) (sym before) ∙ starts);
        }

    ordered : (i j : ℕ) (e f : Entry) (first second : ℕ) → slice_get whole i ≡ Some e → slice_get whole j ≡ Some f
        → step_of whole e ≡ Some first → step_of whole f ≡ Some second → first < second → i < j
    ordered i j e f first second at_i at_j of_i of_j less =
        elim (where_stands i e at_i) [
          | inl old ↦
              let own_i = owner_before i e first old of_i in
              elim (where_stands j f at_j) [
                | inl older ↦ run.in_order i j first second own_i.0 (owner_before j f second older of_j).0 less
                | inr added ↦
                    let low = below_length T i e old in
                    let late = added_late j f added in
                    omega (arith, low, late)
              ]
          | inr added ↦
              let last = same_some first k (step_of whole e) of_i (added_step i e added) in
              elim (where_stands j f at_j) [
                | inl older ↦ let low = (owner_before j f second older of_j).1 in absurd (omega (arith, last, low, less))
                | inr again ↦
                    let also = same_some second k (step_of whole f) of_j (added_step j f again) in
                    absurd (omega (arith, last, also, less))
              ]
        ]

    -- the step has run
    pub one_more : HasRun plan (suc k) whole
    one_more = record {
      input = run.input;
      set_up = old_stands 0 (Setup run.input) run.set_up;
      done = λ number below. elim (below_next number k below) [
        | inl less ↦ done_before number less
        | inr same ↦ subst (IsDone plan whole) (sym same) done_own
      ];
      of_steps = λ i e after at. elim (where_stands i e at) [
        | inl old ↦
            let own_step = run.of_steps i e after old in
            let low = own_step.2 in
            (own_step.0, old_step e own_step.0 own_step.1, omega (arith, low))
        | inr added ↦ (k, added_step i e added, omega arith)
      ];
      in_order = λ i j first second of_i of_j less.
          let e = and_then_some (step_of whole) (slice_get whole i) first of_i in
          let f = and_then_some (step_of whole) (slice_get whole j) second of_j in
          ordered i j e.0 f.0 first second e.1 f.1 e.2 f.2 less;
    }
