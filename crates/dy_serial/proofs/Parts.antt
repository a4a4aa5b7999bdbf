-- What the rules and limits of a file say of the steps of its plan.
use Rattle.std.proofs.Common.{◌≡◌, ℕ, zero, suc, ◌+◌, ◌≤◌, List, [], ◌∷◌, ◌++◌, length, map, Some, inl, inr, refl, ap, sym, subst, arith, length-append}
use Rattle.std.specs.Option.{option_to_list}
use Rattle.std.specs.List.{slice_get, flat_map}
use Rattle.std.proofs.lemmas.List.{length-map}
use Rattle.dy_syntax.specs.Names.{Id}
use Rattle.dy_syntax.specs.Plans.{Start, Step, Round}
use Rattle.dy_syntax.specs.Files.{File}
use Rattle.dy_syntax.specs.Scopes.{no_scope}
use Rattle.dy_syntax.specs.Parts.{Part, Started, StepNames}
use Rattle.dy_syntax.specs.Places.{Place, decl_places, declared_places, parts_of_action, parts_of_rounds, plan_places, places_in}
use Rattle.dy_syntax.specs.Rules.Declared.{w2}
use Rattle.dy_syntax.specs.Rules.Doubles.{w1, w5}
use Rattle.dy_syntax.specs.Rules.Lengths.{w3}
use Rattle.dy_syntax.specs.Rules.Kinds.{w4, w8}
use Rattle.dy_syntax.specs.Rules.Names.{w6}
use Rattle.dy_syntax.specs.Rules.Words.{w7, w9, w10}
use Rattle.dy_syntax.specs.Rules.Plans.{w11}
use Rattle.dy_syntax.specs.Rules.{Fault, faults_of, faults_at, IsIn, IsWellFormed}
use Rattle.dy_parse.specs.declared.errors.LimitName.TheVariants.{Steps, Rounds, Principals}
use Rattle.dy_parse.specs.Limits as limits
use Rattle.dy_parse.specs.Limits.{Excess, breaks, counts, most, others, principals_in, excess_in_action, of_steps, excess_in_plan, excess_in_file, excess_in_token}
use Rattle.dy_parse.specs.Reading.{Reads}
use Rattle.dy_parse.proofs.Depth.Depths as excess
use Rattle.dy_traces.specs.declared.limits.TheConstants.{MAX_STEPS}
use Rattle.dy_traces.proofs.Stores.{in_left, in_right}
use Rattle.dy_plan.specs.Steps.{steps_of_rounds, step_count, numbered_step}
use Rattle.dy_serial.proofs.Lists.{in_either}

in_map : {A B : Type 0} (f : A → B) (x : A) (xs : List A) → IsIn x xs → IsIn (f x) (map f xs)
in_map f x [] at = absurd at
in_map f x (y ∷ ys) (inl here) = inl (ap f here)
in_map f x (y ∷ ys) (inr later) = inr (in_map f x ys later)

in_flat_map : {A B : Type 0} (f : A → List B) (xs : List A) (k : ℕ) (x : A) (y : B) → slice_get xs k ≡ Some x → IsIn y (f x) → IsIn y (flat_map f xs)
in_flat_map f [] k x y at is_in = absurd cc
in_flat_map {A} {B} f (z ∷ xs) zero x y at is_in =
    let same : x ≡ z = cc in
    in_left y (f z) (flat_map f xs) (subst (λ (w : A). IsIn y (f w)) same is_in)
in_flat_map f (z ∷ xs) (suc k) x y at is_in = in_right y (f z) (flat_map f xs) (in_flat_map f xs k x y at is_in)

-- a part of an action is one of the plan
in_rounds : (rounds : List Round) (number k : ℕ) (step : Step) (part : Part) → slice_get (steps_of_rounds rounds) k ≡ Some step
    → ((n : ℕ) → IsIn part (parts_of_action n step.action)) → IsIn part (parts_of_rounds number rounds)
in_rounds [] number k step part at of_action = absurd cc
in_rounds (round ∷ rounds) number k step part at of_action =
    let here = flat_map (λ (s : Step). parts_of_action number s.action) round.steps in
    let later = parts_of_rounds (number + 1) rounds in
    elim (in_either round.steps (steps_of_rounds rounds) k step at) [
      | inl first ↦ inr (in_left part here later (in_flat_map (λ (s : Step). parts_of_action number s.action) round.steps k step part first (of_action number)))
      | inr second ↦ inr (in_right part here later (in_rounds rounds (number + 1) second.0 step part second.2 of_action))
    ]

no_lines : (rule : ℕ) (lines : List ℕ) (all : List Fault) → ((fault : Fault) → IsIn fault all → ⊥)
    → ((fault : Fault) → IsIn fault (faults_of rule lines) → IsIn fault all) → lines ≡ []
no_lines rule [] all none part = refl
no_lines rule (line ∷ lines) all none part = let fault : Fault = record { line = line; rule = rule } in absurd (none fault (part fault (inl refl)))

-- no rule on declared names, on lengths or on plans is broken at a part of the plan
pub record HasNoFault (file : File) (part : Part) : Type 0 where
  pub declared : w2 file.decls no_scope part ≡ []
  pub lengths : w3 file.decls part ≡ []
  pub plans : w11 file part ≡ []

module _ (file : File) (well_formed : IsWellFormed file) where
  no_fault : (part : Part) → IsIn (record { scope = no_scope; part = part }) (places_in file) → HasNoFault file part
  no_fault part stands =
      let place : Place = record { scope = no_scope; part = part } in
      let none : (fault : Fault) → IsIn fault (faults_at file place) → ⊥ = λ fault at.
      well_formed fault.rule fault.line (record { place = place; of_file = stands; fault = at }) in
      let f1 = faults_of 1 (w1 part) in
      let f2 = faults_of 2 (w2 file.decls no_scope part) in
      let f3 = faults_of 3 (w3 file.decls part) in
      let f4 = faults_of 4 (w4 file.decls part) in
      let f5 = faults_of 5 (w5 file.decls part) in
      let f6 = faults_of 6 (w6 file.decls no_scope part) in
      let f7 = faults_of 7 (w7 no_scope part) in
      let f8 = faults_of 8 (w8 file.decls part) in
      let f9 = faults_of 9 (w9 file.decls no_scope part) in
      let f10 = faults_of 10 (w10 part) in
      let f11 = faults_of 11 (w11 file part) in
      let to_2 = f1 ++ f2 in
      let to_3 = to_2 ++ f3 in
      let to_4 = to_3 ++ f4 in
      let to_5 = to_4 ++ f5 in
      let to_6 = to_5 ++ f6 in
      let to_7 = to_6 ++ f7 in
      let to_8 = to_7 ++ f8 in
      let to_9 = to_8 ++ f9 in
      let to_10 = to_9 ++ f10 in
      let to_11 = to_10 ++ f11 in
      let from_3 : (f : Fault) → IsIn f to_3 → IsIn f to_11 = λ f at.
      in_left f to_10 f11 (in_left f to_9 f10 (in_left f to_8 f9 (in_left f to_7 f8 (in_left f to_6 f7 (in_left f to_5 f6 (in_left f to_4 f5 (in_left f to_3 f4 at))))))) in
      record {
        declared = no_lines 2 (w2 file.decls no_scope part) to_11 none (λ f at. from_3 f (in_left f to_2 f3 (in_right f f1 f2 at)));
        lengths = no_lines 3 (w3 file.decls part) to_11 none (λ f at. from_3 f (in_right f to_2 f3 at));
        plans = no_lines 11 (w11 file part) to_11 none (λ f at. in_right f to_10 f11 at);
      }

  -- at a start step no rule is broken
  pub start_without_fault : (number : ℕ) (step : Step) (principal handler : Id) (args : _) (on : _) (msg : _) → numbered_step file.plan number ≡ Some step
      → step.action ≡ Start principal handler args on msg → HasNoFault file (Started handler args on msg)
  start_without_fault number step principal handler args on msg numbered action =
      let part = Started handler args on msg in
      let place = λ (p : Part). let made : Place = record { scope = no_scope; part = p } in made in
      let names = StepNames (flat_map (λ (r : Round). map (λ (s : Step). s.name) r.steps) file.plan.rounds) in
      let of_action : (n : ℕ) → IsIn part (parts_of_action n step.action) = λ n.
      subst (λ a. IsIn part (parts_of_action n a)) (sym action) (inl refl) in
      let of_plan : IsIn part (names ∷ parts_of_rounds 0 file.plan.rounds) = inr (in_rounds file.plan.rounds 0 number step part numbered of_action) in
      no_fault part (in_right (place part) (declared_places file.decls ++ flat_map (decl_places file.decls) file.decls) (plan_places file.plan.rounds)
      (in_map place part (names ∷ parts_of_rounds 0 file.plan.rounds) of_plan))

-- a list none of whose lines is the one after so many has no more
few_lines : (lines : List ℕ) (k : ℕ) → ((line : ℕ) → limits.IsIn (record { which = Steps; line = line }) (breaks Steps (option_to_list (slice_get lines k))) → ⊥)
    → length lines ≤ k
few_lines [] k free = omega arith
few_lines (line ∷ lines) zero free = absurd (free line (inl refl))
few_lines (line ∷ lines) (suc k) free = omega (arith, few_lines lines k free)

abbrev lines_in : List Round → List ℕ
lines_in rounds = flat_map (λ (round : Round). map (λ (step : Step). step.line) round.steps) rounds

as_many : (rounds : List Round) → length (lines_in rounds) ≡ length (steps_of_rounds rounds)
as_many [] = refl
as_many (round ∷ rounds) =
    let first = length-append (map (λ (step : Step). step.line) round.steps) (lines_in rounds) in
    let second = length-append round.steps (steps_of_rounds rounds) in
    let each = length-map round.steps (λ (step : Step). step.line) in
    omega (arith, first, second, each, as_many rounds)

-- a file that is read has few steps
pub few_steps : (bytes : List ℕ) (file : File) → Reads bytes file → step_count file.plan ≤ MAX_STEPS
few_steps bytes file reads =
    let rounds = file.plan.rounds in
    let in_rounds_ = counts Rounds (map (λ (round : Round). round.line) rounds) in
    let in_steps = counts Steps (lines_in rounds) in
    let in_principals = counts Principals (map (λ (id : Id). id.line) (others [] (principals_in rounds))) in
    let in_actions = of_steps (λ (step : Step). excess_in_action step.action) rounds in
    let plan = excess_in_plan rounds in
    let free : (line : ℕ) → limits.IsIn (record { which = Steps; line = line }) in_steps → ⊥ = λ line at.
    let x : Excess = record { which = Steps; line = line } in
    reads.fits Steps line (excess.in_right x (flat_map excess_in_token reads.tokens) (excess_in_file file)
    (excess.in_right x _ plan
    (excess.in_left x ((in_rounds_ ++ in_steps) ++ in_principals) in_actions (excess.in_left x (in_rounds_ ++ in_steps) in_principals (excess.in_right x in_rounds_ in_steps at))))) in
    let few = few_lines (lines_in rounds) (most Steps) free in
    omega (arith, few, as_many rounds)
