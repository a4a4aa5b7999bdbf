use Rattle.std.proofs.Common.{◌≡◌, ℕ, ◌<◌, arith, add-one, sym, ap, subst, ◌∙◌, List}
use Rattle.std.proofs.lemmas.Result.{on_ok_weaker}
use Rattle.dy_syntax.specs.Meaning.{plan_of}
use Rattle.dy_syntax.specs.Plans.{Plan}
use Rattle.dy_entry.specs.Entries.{Entry}
use Rattle.dy_core.specs.BookMeaning.{trace_of, file_in}
use Rattle.dy_plan.specs.Steps.{step_count}
use Rattle.dy_plan.specs.Meaning.{resolved_of}
use Rattle.dy_plan.specs.Resolving.{resolution}
use Rattle.dy_serial.specs.MirrorRunning.{HasRun}
use Rattle.dy_serial.proofs.Asked.{is_well_formed, has_few_steps, plan_has_few_steps}
use Rattle.dy_serial.proofs.StepsRun.{next_unused}
use Rattle.dy_serial.proofs.Runs.{runs_next}
use Rattle.dy_serial.proofs.Fitting.{next_may_run}
use Rattle.dy_serial.proofs.steps.run_step.Goals as goal

pub resolve-requires-clause-steps : goal.resolve-requires-clause-steps
resolve-requires-clause-steps c =
    let few = plan_has_few_steps (file_in c.args.book.now) (trace_of c.args.book.now) c.is_interleaving.ensures.interleaves (plan_of c.args.plan.now) c.requires.plan in
    omega (arith, few)

pub do_step-requires-clause-low : goal.do_step-requires-clause-low
do_step-requires-clause-low c =
    let few = plan_has_few_steps (file_in c.args.book.now) (trace_of c.args.book.now) c.is_interleaving.ensures.interleaves (plan_of c.args.plan.now) c.requires.plan in
    let low = c.requires.step in
    omega (arith, few, low)

pub do_step-requires-clause-unused : goal.do_step-requires-clause-unused
do_step-requires-clause-unused c = next_unused (plan_of c.args.plan.now) c.args.step (trace_of c.args.book.now) c.requires.ran

pub do_step-requires-clause-may : goal.do_step-requires-clause-may
do_step-requires-clause-may c =
    let file = file_in c.args.book.now in
    let T = trace_of c.args.book.now in
    let step = c.args.step in
    let is_one = c.is_interleaving.ensures.interleaves in
    let low : step < step_count file.plan = subst (λ (p : Plan). step < step_count p) c.requires.plan c.requires.step in
    let run : HasRun file.plan step T = subst (λ (p : Plan). HasRun p step T) c.requires.plan c.requires.ran in
    let is : resolution file.plan T step ≡ resolved_of c.in_ok-resolved.resolved =
    ap (λ (p : Plan). resolution p T step) (sym c.requires.plan) ∙ ap (λ (X : List Entry). resolution (plan_of c.args.plan.now) X step) (sym c.entries.ensures) ∙ sym c.in_ok-resolved.ensures in
    next_may_run file (is_well_formed file T is_one) (has_few_steps file T is_one) T step low run (resolved_of c.in_ok-resolved.resolved) is

pub returns-clause-ran : goal.returns-clause-ran
returns-clause-ran c =
    let plan = plan_of c.args.plan.now in
    let T = trace_of c.args.book.now in
    let U = trace_of c.do_step.new.book in
    let step = c.args.step in
    let is : resolution plan T step ≡ resolved_of c.in_ok-resolved.resolved =
    ap (λ (X : List Entry). resolution plan X step) (sym c.entries.ensures) ∙ sym c.in_ok-resolved.ensures in
    on_ok_weaker c.do_step.result
    (λ ran. subst (λ (n : ℕ). HasRun plan n U) (sym (add-one step)) (runs_next plan step T U c.requires.ran (resolved_of c.in_ok-resolved.resolved) is ran))
    c.do_step.ensures.ran
