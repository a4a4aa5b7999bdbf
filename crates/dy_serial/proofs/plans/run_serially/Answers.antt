use Rattle.std.proofs.Common.{◌≡◌, ℕ, refl, sym, ap, subst, ◌∙◌, arith}
use Rattle.dy_syntax.specs.Meaning.{plan_of}
use Rattle.dy_syntax.specs.Files.{File}
use Rattle.dy_core.specs.BookMeaning.{trace_of, file_in}
use Rattle.dy_plan.specs.Steps.{step_count}
use Rattle.dy_serial.specs.MirrorRunning.{HasRun}
use Rattle.dy_serial.proofs.Asked.{plan_has_few_steps}
use Rattle.dy_serial.proofs.Books.{grows_by_none, grows_then}
use Rattle.dy_serial.proofs.Runs.{none_run, all_run}
use Rattle.dy_serial.proofs.plans.run_serially.Goals as goal

pub step_count-step-end-requires : goal.step_count-step-end-requires
step_count-step-end-requires c =
    let few = plan_has_few_steps (file_in c.args.book.now) (trace_of c.args.book.now) c.is_interleaving.ensures.interleaves (plan_of c.args.plan.now) c.requires.plan in
    omega (arith, few)

pub loop-step-init : goal.loop-step-init
loop-step-init c = record {
  ran = none_run (plan_of c.args.plan.now) c.requires.alone.0 (trace_of c.args.book.now) c.requires.alone.1;
  grows = grows_by_none c.args.book.now c.args.book.now refl (λ bytes is_one. is_one) refl;
}

pub run_step-requires-clause-plan : goal.run_step-requires-clause-plan
run_step-requires-clause-plan c = c.requires.plan ∙ ap (λ (f : File). f.plan) (sym c.loop-step.invariant.grows.file)

pub run_step-requires-clause-ran : goal.run_step-requires-clause-ran
run_step-requires-clause-ran c = c.loop-step.invariant.ran

pub loop-step-preserved : goal.loop-step-preserved
loop-step-preserved c = record {
  ran = c.in_ok-run_step.ensures.ran;
  grows = grows_then c.args.book.now c.loop-step.book c.run_step.new.book c.loop-step.invariant.grows c.run_step.ensures.grows;
}

pub returns-in_err-run_step-clause-begins : goal.returns-in_err-run_step-clause-begins
returns-in_err-run_step-clause-begins c = (grows_then c.args.book.now c.loop-step.book c.run_step.new.book c.loop-step.invariant.grows c.run_step.ensures.grows).begins

pub returns-in_err-run_step-clause-interleaves : goal.returns-in_err-run_step-clause-interleaves
returns-in_err-run_step-clause-interleaves c = (grows_then c.args.book.now c.loop-step.book c.run_step.new.book c.loop-step.invariant.grows c.run_step.ensures.grows).interleaves

pub returns-in_err-run_step-clause-file : goal.returns-in_err-run_step-clause-file
returns-in_err-run_step-clause-file c = (grows_then c.args.book.now c.loop-step.book c.run_step.new.book c.loop-step.invariant.grows c.run_step.ensures.grows).file

pub returns-clause-serial : goal.returns-clause-serial
returns-clause-serial c =
    let plan = plan_of c.args.plan.now in
    let T = trace_of c.loop-step.book in
    let past = c.loop-step-test.false in
    let within = c.loop-step.auto.step-end in
    let count = c.step_count-step-end.ensures in
    let last : c.loop-step.step ≡ step_count plan = omega (arith, past, within, count) in
    all_run plan T (subst (λ (n : ℕ). HasRun plan n T) last c.loop-step.invariant.ran)

pub returns-clause-begins : goal.returns-clause-begins
returns-clause-begins c = c.loop-step.invariant.grows.begins

pub returns-clause-interleaves : goal.returns-clause-interleaves
returns-clause-interleaves c = c.loop-step.invariant.grows.interleaves

pub returns-clause-file : goal.returns-clause-file
returns-clause-file c = c.loop-step.invariant.grows.file
