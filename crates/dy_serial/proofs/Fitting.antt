-- A start step that is resolved fits its file, and its instance may begin.
use Rattle.std.proofs.Common.{◌≡◌, ℕ, ◌<◌, ◌≤◌, ◌&&◌, ◌==◌, Bool, true, false, not, List, [], ◌∷◌, ◌++◌, length, Option, Some, None, ◌⊎◌, inl, inr, refl, ap, sym, subst, ◌∙◌, arith}
use Rattle.std.specs.Prelude.{nat_lt}
use Rattle.std.specs.Option.{option_map_or, is_some, is_none}
use Rattle.std.proofs.lemmas.List.{length-map}
use Rattle.dy_syntax.specs.Names.{Id}
use Rattle.dy_syntax.specs.Statements.{Handler}
use Rattle.dy_syntax.specs.Plans.{OnStep}
use Rattle.dy_syntax.specs.Recipes.{Numbered}
use Rattle.dy_syntax.specs.Files.{File}
use Rattle.dy_syntax.specs.LookUps.{handler_named}
use Rattle.dy_syntax.specs.Parts.{Started}
use Rattle.dy_syntax.specs.Rules.Lines.{lines_if, lines_if_none}
use Rattle.dy_syntax.specs.Rules.Lengths.{lines_of_lengths}
use Rattle.dy_syntax.specs.Rules.Plans.{lines_of_on, lines_of_msg, lines_of_lacking, lines_of_start}
use Rattle.dy_syntax.specs.Rules.{IsWellFormed}
use Rattle.dy_entry.specs.Entries.{Entry}
use Rattle.dy_traces.specs.declared.limits.TheConstants.{MAX_STEPS}
use Rattle.dy_traces.specs.Steps.{IsUnused}
use Rattle.dy_core.specs.StepMeaning.{StartStep}
use Rattle.dy_core.specs.Asking.{are_both_given, fits_handler, asks_right}
use Rattle.dy_core.specs.Answers.{IsIdle}
use Rattle.dy_core.specs.MirrorBooks.{MayBegin}
use Rattle.dy_plan.specs.Steps.{step_count}
use Rattle.dy_plan.specs.Naming.{session_of, message_named}
use Rattle.dy_plan.specs.Resolving.{Resolved, Start, Corrupt, Forge, Inject, Unresolved, if_given, resolution}
use Rattle.dy_plan.proofs.Owners.{same_number}
use Rattle.dy_plan.proofs.Resolutions.{StartsBy, starts_by}
use Rattle.dy_plan.proofs.Standing.{given_cases, session_is_opened, message_is_there}
use Rattle.dy_serial.specs.MirrorRunning.{HasRun, MayRun}
use Rattle.dy_serial.proofs.Parts.{HasNoFault, start_without_fault}
use Rattle.dy_serial.proofs.StepsRun.{next_unused, all_ended}

declared_from : (o : Option Handler) (line : ℕ) → lines_if_none o line ≡ [] → (h : Handler) × (o ≡ Some h)
declared_from None line none = absurd cc
declared_from (Some h) line none = (h, refl)

no_line : (b : Bool) (line : ℕ) → lines_if b line ≡ [] → b ≡ false
no_line true line none = absurd cc
no_line false line none = refl

none_before : (xs ys : List ℕ) → xs ++ ys ≡ [] → (xs ≡ []) × (ys ≡ [])
none_before [] ys none = (refl, none)
none_before (x ∷ xs) ys none = absurd cc

equal_from : (b : Bool) → not b ≡ false → b ≡ true
equal_from true is = refl
equal_from false is = absurd cc

-- where neither stands alone, both stand or none does
both_given : {A B : Type 0} (o : Option A) (p : Option B) → (is_none p ≡ false) ⊎ (o ≡ None) → (is_some p && is_none o) ≡ false → are_both_given o p ≡ true
both_given None None first second = refl
both_given None (Some y) first second = absurd cc
both_given (Some x) None (inl first) second = absurd cc
both_given (Some x) None (inr first) second = absurd cc
both_given (Some x) (Some y) first second = refl

on_alone : (h : Handler) (on : Option OnStep) → lines_of_on h on ≡ [] → (is_none h.on ≡ false) ⊎ (on ≡ None)
on_alone h None none = inr refl
on_alone h (Some on) none = inl (no_line (is_none h.on) on.line none)

msg_alone : (h : Handler) (msg : Option Numbered) → lines_of_msg h msg ≡ [] → (is_none h.recv ≡ false) ⊎ (msg ≡ None)
msg_alone h None none = inr refl
msg_alone h (Some msg) none = inl (no_line (is_none h.recv) msg.line none)

-- what is resolved is given exactly where the step gives it
still_given : {X B : Type 0} (index_of : X → Option ℕ) (o : Option X) (answer : Option ℕ) (p : Option B) → if_given index_of o ≡ Some answer
    → are_both_given o p ≡ true → are_both_given answer p ≡ true
still_given {X} {B} index_of o answer p is given = elim (given_cases index_of o answer is) [
  | inl none ↦
      ap (λ (a : Option ℕ). are_both_given a p) none.1 ∙ without p ∙ ap (λ (q : Option X). are_both_given q p) (sym none.0) ∙ given
  | inr some ↦
      ap (λ (a : Option ℕ). are_both_given a p) some.4 ∙ with_one some.0 some.1 p ∙ ap (λ (q : Option X). are_both_given q p) (sym some.2) ∙ given
]
  where
    without : (p : Option B) → are_both_given {A = ℕ} None p ≡ are_both_given {A = X} None p
    without None = refl
    without (Some y) = refl

    with_one : (x : X) (index : ℕ) (p : Option B) → are_both_given (Some index) p ≡ are_both_given (Some x) p
    with_one x index None = refl
    with_one x index (Some y) = refl

and_true : (a b : Bool) → a ≡ true → b ≡ true → (a && b) ≡ true
and_true a b first second = cc

module _ (file : File) (well_formed : IsWellFormed file) (few : step_count file.plan ≤ MAX_STEPS) (T : List Entry) (number : ℕ) (low : number < step_count file.plan)
    (s : StartStep) (is : resolution file.plan T number ≡ Start s) where
  abbrev by : StartsBy file.plan T number s
  by = starts_by file.plan T number s is

  abbrev free : HasNoFault file (Started by.handler by.args by.on by.msg)
  free = start_without_fault file well_formed number by.step by.principal by.handler by.args by.on by.msg by.numbered by.action

  fits : (h : Handler) → handler_named file.decls by.handler.word ≡ Some h → fits_handler s h ≡ true
  fits h declared =
      let lengths : lines_of_lengths h.args by.args by.handler.line ≡ [] =
      ap (λ (o : Option Handler). option_map_or (λ (d : Handler). lines_of_lengths d.args by.args by.handler.line) o []) (sym declared) ∙ free.lengths in
      let plans : lines_of_start h by.handler by.on by.msg ≡ [] =
      ap (λ (o : Option Handler). option_map_or (λ (d : Handler). lines_of_start d by.handler by.on by.msg) o []) (sym declared) ∙ free.plans in
      let two = none_before (lines_of_on h by.on ++ lines_of_msg h by.msg) (lines_of_lacking h by.handler by.on by.msg) plans in
      let given = none_before (lines_of_on h by.on) (lines_of_msg h by.msg) two.0 in
      let lacking = none_before (lines_if (is_some h.on && is_none by.on) by.handler.line) (lines_if (is_some h.recv && is_none by.msg) by.handler.line) two.1 in
      let on = both_given by.on h.on (on_alone h by.on given.0) (no_line (is_some h.on && is_none by.on) by.handler.line lacking.0) in
      let msg = both_given by.msg h.recv (msg_alone h by.msg given.1) (no_line (is_some h.recv && is_none by.msg) by.handler.line lacking.1) in
      let session = still_given (λ (o : OnStep). session_of file.plan T by.principal.word o.step.word) by.on s.session h.on by.session_is on in
      let message = still_given (λ (m : Numbered). message_named file.plan T m.step.word m.number) by.msg s.message h.recv by.message_is msg in
      let many = same_number (length h.args) (length by.args) (equal_from (length h.args == length by.args) (no_line (not (length h.args == length by.args)) by.handler.line lengths)) in
      let words = ap length by.args_are ∙ length-map by.args (λ (arg : Id). arg.word) in
      let same : length s.args ≡ length h.args = words ∙ sym many in
      let equal : (length s.args == length h.args) ≡ true = ap (λ (n : ℕ). n == length h.args) same ∙ search arith in
      and_true (length s.args == length h.args) (are_both_given s.session h.on && are_both_given s.message h.recv) equal
      (and_true (are_both_given s.session h.on) (are_both_given s.message h.recv) session message)

  -- the step fits the file
  pub right : asks_right file.decls s ≡ true
  right =
      let declared = declared_from (handler_named file.decls by.handler.word) by.handler.line free.declared in
      let found : handler_named file.decls s.handler ≡ Some declared.0 = ap (handler_named file.decls) by.handler_is ∙ declared.1 in
      let number_is = by.number_is in
      let below : s.step < MAX_STEPS = omega (arith, number_is, low, few) in
      let short : nat_lt s.step MAX_STEPS ≡ true = search (arith, below) in
      and_true (option_map_or (fits_handler s) (handler_named file.decls s.handler) false) (nat_lt s.step MAX_STEPS)
      (ap (λ (o : Option Handler). option_map_or (fits_handler s) o false) found ∙ fits declared.0 declared.1) short

  idle_from : HasRun file.plan number T → (session : Option ℕ) → IsIdle T session
  idle_from run None = tt
  idle_from run (Some session) = all_ended file.plan number T run session

  -- its instance may begin
  pub may_begin : HasRun file.plan number T → MayBegin T s
  may_begin run = record {
    unused = subst (IsUnused T) (sym by.number_is) (next_unused file.plan number T run);
    opened = session_is_opened file.plan T number s by;
    idle = idle_from run s.session;
    has_message = message_is_there file.plan T number s by;
  }

-- the next step may run
pub next_may_run : (file : File) → IsWellFormed file → step_count file.plan ≤ MAX_STEPS → (T : List Entry) (number : ℕ) → number < step_count file.plan
    → HasRun file.plan number T → (r : Resolved) → resolution file.plan T number ≡ r → MayRun file.decls T r
next_may_run file well_formed few T number low run (Start s) is = (right file well_formed few T number low s is, may_begin file well_formed few T number low s is run)
next_may_run file well_formed few T number low run (Corrupt place) is = tt
next_may_run file well_formed few T number low run Forge is = tt
next_may_run file well_formed few T number low run (Inject recipe) is = tt
next_may_run file well_formed few T number low run Unresolved is = tt
