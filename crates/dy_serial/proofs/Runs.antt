-- What a step adds when it runs, and the plan as a whole.
use Rattle.std.proofs.Common.{◌≡◌, ℕ, zero, suc, ◌+◌, ◌-◌, ◌<◌, ◌≤◌, ◌==◌, Bool, true, false, List, [], ◌∷◌, ◌++◌, length, Option, Some, None, ◌⊎◌, inl, inr, refl, ap, sym, subst, ◌∙◌, arith, append_assoc}
use Rattle.std.specs.Prelude.{IsSome, nat_lt, if◌then◌else◌}
use Rattle.std.specs.Option.{option_map_or}
use Rattle.std.specs.List.{slice_get}
use Rattle.std.proofs.lemmas.List.{append-nil}
use Rattle.dy_term.specs.Terms.{Term}
use Rattle.dy_label.specs.declared.usages.Outcome.{Outcome}
use Rattle.dy_syntax.specs.Plans.{Plan, Round}
use Rattle.dy_entry.specs.Entries as entries
use Rattle.dy_entry.specs.Entries.{Entry, Setup, End}
use Rattle.dy_entry.specs.Summaries.{is_start}
use Rattle.dy_recipe.specs.Values.{recipe_value}
use Rattle.dy_traces.specs.Given.{given_by}
use Rattle.dy_traces.specs.Instances.{is_item_of, is_end_of, end_of}
use Rattle.dy_traces.proofs.Prefixes.{in_last}
use Rattle.dy_traces.proofs.Searches.{none_passes}
use Rattle.dy_core.specs.StepMeaning.{StartStep, start_of}
use Rattle.dy_plan.specs.Steps.{step_count, round_among}
use Rattle.dy_plan.specs.Resolving.{Resolved, Start, Corrupt, Forge, Inject, Unresolved, resolution, entry_by, entry_of_step}
use Rattle.dy_plan.specs.Completeness.{step_started, step_of, opens, IsSerial}
use Rattle.dy_plan.proofs.Owners.{and_then_some}
use Rattle.dy_plan.proofs.Resolutions.{starts_by}
use Rattle.dy_serial.specs.MirrorRunning.{HasRun, RunsStart, Runs}
use Rattle.dy_serial.proofs.Lists.{in_either, in_single, is_some_from}
use Rattle.dy_serial.proofs.StepsRun.{one_more}

-- a trace that ends with the End of an instance has one
ends_last : (T : List Entry) (instance : ℕ) (outcome : Outcome) → IsSome (end_of (T ++ End instance outcome ∷ []) instance)
ends_last T instance outcome =
    is_some_from (end_of (T ++ End instance outcome ∷ []) instance) (λ none.
    let fails : (instance == instance) ≡ false =
    none_passes (is_end_of instance) (T ++ End instance outcome ∷ []) none (length T) (End instance outcome) (in_last T (End instance outcome)) in
    let passes : (instance == instance) ≡ true = search arith in
    absurd cc)

no_start : (number : ℕ) (value : Option Term) → is_start (option_map_or (entries.Inject number) value (entries.Skip number)) ≡ true → ⊥
no_start number None starts = absurd cc
no_start number (Some value) starts = absurd cc

module _ (plan : Plan) (k : ℕ) (T U : List Entry) (run : HasRun plan k T) where
  -- a step that starts no instance
  alone : (r : Resolved) → resolution plan T k ≡ r → (is_start (entry_by T k r) ≡ true → ⊥) → U ≡ T ++ entry_by T k r ∷ [] → HasRun plan (suc k) U
  alone r is other trace =
      let until = T ++ entry_of_step plan T k ∷ [] in
      let entry : entry_by T k r ≡ entry_of_step plan T k = ap (entry_by T k) (sym is) in
      let whole : until ++ [] ≡ U = append-nil until ∙ ap (λ (e : Entry). T ++ e ∷ []) (sym entry) ∙ sym trace in
      subst (HasRun plan (suc k)) whole
      (one_more plan k T run [] (λ j e at. absurd cc) (λ j e at. absurd cc) (λ starts. absurd (other (ap is_start entry ∙ starts))))

  module _ (s : StartStep) (is : resolution plan T k ≡ Start s) (ran : RunsStart s T U) where
    own_is : start_of s T ≡ entry_of_step plan T k
    own_is = ap (entry_by T k) (sym is)

    abbrev rest : List Entry
    rest = ran.items ++ End (length T) ran.outcome ∷ []

    each_rest : (j : ℕ) (e : Entry) → slice_get rest j ≡ Some e → (is_item_of (length T) e ≡ true) ⊎ (is_end_of (length T) e ≡ true)
    each_rest j e at = elim (in_either ran.items (End (length T) ran.outcome ∷ []) j e at) [
      | inl item ↦ inl (ran.are_items j e item)
      | inr last ↦
          let single = in_single (End (length T) ran.outcome) last.0 e last.2 in
          let passes : (length T == length T) ≡ true = search arith in
          inr (ap (is_end_of (length T)) single.1 ∙ passes)
    ]

    whole_is : (X : List Entry) → X ≡ T ++ start_of s T ∷ [] → X ++ rest ≡ U
    whole_is X same =
        ap (λ (Y : List Entry). Y ++ rest) same ∙ sym (append_assoc (T ++ start_of s T ∷ []) ran.items (End (length T) ran.outcome ∷ [])) ∙ sym ran.trace

    -- a step that starts an instance
    with_instance : HasRun plan (suc k) U
    with_instance =
        let until : T ++ entry_of_step plan T k ∷ [] ≡ T ++ start_of s T ∷ [] = ap (λ (e : Entry). T ++ e ∷ []) (sym own_is) in
        let whole = whole_is (T ++ entry_of_step plan T k ∷ []) until in
        let number : s.step ≡ k = (starts_by plan T k s is).number_is in
        subst (HasRun plan (suc k)) whole
        (one_more plan k T run rest each_rest
        (λ j e at. ap step_started (sym own_is) ∙ ap Some number)
        (λ starts. subst (λ (X : List Entry). IsSome (end_of X (length T))) (sym ran.trace ∙ sym whole)
        (ends_last ((T ++ start_of s T ∷ []) ++ ran.items) (length T) ran.outcome)))

  -- One more step has run.
  pub runs_next : (r : Resolved) → resolution plan T k ≡ r → Runs k r T U → HasRun plan (suc k) U
  runs_next (Start s) is ran = with_instance s is ran
  runs_next (Corrupt place) is ran = alone (Corrupt place) is (λ starts. absurd cc) ran
  runs_next Forge is ran = alone Forge is (λ starts. absurd cc) ran
  runs_next (Inject recipe) is ran = alone (Inject recipe) is (no_start k (recipe_value (given_by T) recipe)) ran
  runs_next Unresolved is ran = alone Unresolved is (λ starts. absurd cc) ran

-- nothing has run in a trace of a Setup alone
pub none_run : (plan : Plan) (input : List ℕ) (T : List Entry) → T ≡ Setup input ∷ [] → HasRun plan 0 T
none_run plan input T is = subst (HasRun plan 0) (sym is) record {
  input = input;
  set_up = refl;
  done = λ number below. absurd (omega (arith, below));
  of_steps = λ i e after at. let single = in_single (Setup input) i e at in let zero_is = single.0 in absurd (omega (arith, after, zero_is));
  in_order = λ i j first second of_i of_j less.
      let found = and_then_some (step_of (Setup input ∷ [])) (slice_get (Setup input ∷ []) i) first of_i in
      let single = in_single (Setup input) i found.0 found.1 in
      let none : step_of (Setup input ∷ []) found.0 ≡ None = ap (step_of (Setup input ∷ [])) single.1 in
      let some = found.2 in
      absurd cc;
}

-- a later step is of no earlier round
by_length : (b c : Bool) (first second : ℕ) (n : ℕ) (here : (first < n → b ≡ true)) (there : (c ≡ true → second < n)) (x y : ℕ) → first ≤ second → x ≤ y
    → (if b then 0 else 1 + x) ≤ (if c then 0 else 1 + y)
by_length true true first second n here there x y order rest = omega arith
by_length true false first second n here there x y order rest = omega arith
by_length false false first second n here there x y order rest = omega (arith, rest)
by_length false true first second n here there x y order rest =
    let low = there refl in
    let not : false ≡ true = here (omega (arith, low, order)) in
    absurd cc

lt_true : (a b : ℕ) → a < b → nat_lt a b ≡ true
lt_true a b less = search (arith, less)

lt_from : (a b : ℕ) → nat_lt a b ≡ true → a < b
lt_from a b is = search (arith, is)

later_round : (rounds : List Round) (first second : ℕ) → first ≤ second → round_among rounds first ≤ round_among rounds second
later_round [] first second order = omega arith
later_round (round ∷ rounds) first second order =
    let n = length round.steps in
    by_length (nat_lt first n) (nat_lt second n) first second n (lt_true first n) (lt_from second n)
    (round_among rounds (first - n)) (round_among rounds (second - n)) order
    (later_round rounds (first - n) (second - n) (omega (arith, order)))

sooner : (rounds : List Round) (first second : ℕ) → round_among rounds first < round_among rounds second → first < second
sooner rounds first second less = by_order (order first second)
  where
    order : (a b : ℕ) → (a < b) ⊎ (b ≤ a)
    order zero zero = inr (omega arith)
    order zero (suc b) = inl (omega arith)
    order (suc a) zero = inr (omega arith)
    order (suc a) (suc b) = elim (order a b) [
      | inl less ↦ inl (omega (arith, less))
      | inr more ↦ inr (omega (arith, more))
    ]

    by_order : (first < second) ⊎ (second ≤ first) → first < second
    by_order (inl is) = is
    by_order (inr more) = let same = later_round rounds second first more in absurd (omega (arith, same, less))

not_opening : (i : ℕ) (e : Entry) (input : List ℕ) → e ≡ Setup input → i ≡ 0 → opens i e ≡ true
not_opening i e input setup first = ap (opens i) setup ∙ ap (λ (n : ℕ). opens n (Setup input)) first

-- A plan all of whose steps have run is serial in its trace.
pub all_run : (plan : Plan) (T : List Entry) → HasRun plan (step_count plan) T → IsSerial plan T
all_run plan T run = record {
  complete = record {
    done = run.done;
    of_steps = each;
    in_rounds = λ i j first second of_i of_j less. run.in_order i j first second of_i of_j (sooner plan.rounds first second less);
  };
  in_order = run.in_order;
}
  where
    each : (i : ℕ) (e : Entry) → slice_get T i ≡ Some e → opens i e ≡ false → (number : ℕ) × (step_of T e ≡ Some number) × (number < step_count plan)
    each zero e at other =
        let setup : e ≡ Setup run.input = (let first = run.set_up in cc) in
        let yes : opens 0 e ≡ true = not_opening 0 e run.input setup refl in
        absurd cc
    each (suc i) e at other = run.of_steps (suc i) e (omega arith) at
