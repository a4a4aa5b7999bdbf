use Rattle.std.proofs.Common.{◌≡◌, ◌-◌, List, ℕ, Some, None, length, subst, sym, ap, ◌∙◌}
use Rattle.std.specs.List.{slice_get}
use Rattle.dy_flat.specs.Views.{tree_of}
use Rattle.dy_flat.specs.StepMeaning.{step_of}
use Rattle.dy_flat.specs.WalkMeaning.{steps_left}
use Rattle.dy_derive.proofs.Refusals.{on_err}
use Rattle.dy_derive.proofs.StepsInterned.{IsWalked}
use Rattle.dy_derive.proofs.WalkedNodes.{walk_starts, walk_earlier, walk_goes_on, walk_stops, walk_has_last, walk_ends}
use Rattle.dy_derive.proofs.deductions.Deductions.intern_term.Goals as goal

pub loop-step-init : goal.loop-step-init
loop-step-init c =
    let self = c.args.self.now in
    let rest = steps_left c.into_iter-step-iterator.result in
    subst (λ (numbers : List ℕ). IsWalked self self numbers rest (tree_of c.args.term)) (sym c.new-numbers.ensures.items)
    (walk_starts self rest (tree_of c.args.term) (ap steps_left c.into_iter-step-iterator.ensures.into_iter_gives ∙ c.in_ok-step-items.ensures))

pub intern_step-requires-clause-earlier : goal.intern_step-requires-clause-earlier
intern_step-requires-clause-earlier c =
    walk_earlier c.args.self.now c.loop-step.self c.loop-step.numbers.items (step_of c.in-Some.step) (steps_left c.loop-step.step-iterator)
    (steps_left c.next.new.self) (tree_of c.args.term) c.requires c.in-Some.ensures.steps c.loop-step.invariant

pub loop-step-preserved : goal.loop-step-preserved
loop-step-preserved c =
    walk_goes_on c.args.self.now c.loop-step.self c.loop-step.numbers.items (step_of c.in-Some.step) (steps_left c.loop-step.step-iterator)
    (steps_left c.next.new.self) (tree_of c.args.term) c.requires c.in-Some.ensures.steps c.loop-step.invariant
    c.intern_step.new.self c.intern_step.new.numbers.items c.in_ok-intern_step.ensures.one c.in_ok-intern_step.ensures.below c.in_ok-intern_step.ensures.ok

pub returns-in_err-intern_step-clause-err : goal.returns-in_err-intern_step-clause-err
returns-in_err-intern_step-clause-err c =
    on_err c.from_residual-in_err-intern_step.result _
    (walk_stops c.args.self.now c.loop-step.self c.loop-step.numbers.items (step_of c.in-Some.step) (steps_left c.loop-step.step-iterator)
    (steps_left c.next.new.self) (tree_of c.args.term) c.requires c.in-Some.ensures.steps c.loop-step.invariant
    c.intern_step.new.self c.in_err-intern_step.ensures.err)

pub unreachable-requires : goal.unreachable-requires
unreachable-requires c =
    walk_has_last c.args.self.now c.loop-step.self c.loop-step.numbers.items (steps_left c.loop-step.step-iterator) (tree_of c.args.term)
    c.in-None.ensures.steps.0 c.loop-step.invariant
    (subst (λ (numbers : List ℕ). None ≡ slice_get numbers (length numbers - 1)) c.deref.ensures.value c.in-None-last.ensures.value)

pub returns-clause-ok : goal.returns-clause-ok
returns-clause-ok c =
    walk_ends c.args.self.now c.loop-step.self c.loop-step.numbers.items (steps_left c.loop-step.step-iterator) (tree_of c.args.term)
    c.in-None.ensures.steps.0 c.loop-step.invariant c.in-Some-last.number.now
    (subst (λ (numbers : List ℕ). Some c.in-Some-last.number.now ≡ slice_get numbers (length numbers - 1)) c.deref.ensures.value c.in-Some-last.ensures.value)
