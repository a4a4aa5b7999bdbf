use Rattle.std.proofs.Common.{◌++◌, ◌∷◌, [], List, ℕ, length, subst, sym, ap, ◌∙◌}
use Rattle.std.specs.List.{slice_get}
use Rattle.dy_flat.specs.StepMeaning.{step_of}
use Rattle.dy_derive.specs.declared.nodes.Node.{Node}
use Rattle.dy_derive.specs.Nodes.{numbers_of}
use Rattle.dy_derive.specs.MirrorKnowledge.{Interns, Grows, AreTermsAt}
use Rattle.dy_derive.specs.MirrorSteps.{node_of_step}
use Rattle.dy_derive.proofs.Refusals.{on_err}
use Rattle.dy_derive.proofs.StepNodes.{step_below}
use Rattle.dy_derive.proofs.StepsInterned.{step_added, step_kept, grows_any}
use Rattle.dy_derive.proofs.deductions.Deductions.intern_step.Goals as goal

pub intern-requires : goal.intern-requires
intern-requires c =
    let node_is = c.node_of_step-node.ensures ∙ ap (λ ns. node_of_step ns (step_of c.args.step)) c.as_slice.ensures.value in
    record {
      parts = λ k part at.
          step_below (length c.args.self.now.nodes.keys) c.args.numbers.now.items (step_of c.args.step) c.requires.below c.requires.earlier k part
          (ap (λ n. slice_get (numbers_of n) k) (sym node_is) ∙ at);
    }

pub returns-in_err-number-clause-err : goal.returns-in_err-number-clause-err
returns-in_err-number-clause-err c =
    on_err c.from_residual.result _ (λ start terms term next.
    step_kept start c.args.self.now c.intern.new.self c.args.numbers.now.items terms (step_of c.args.step) term next c.in_err-number.ensures.err)

pub returns-in_err-push-clause-err : goal.returns-in_err-push-clause-err
returns-in_err-push-clause-err c =
    let items = c.args.numbers.now.items in
    let step = step_of c.args.step in
    let number = c.in_ok-number.number in
    let node_is = c.node_of_step-node.ensures ∙ ap (λ ns. node_of_step ns step) c.as_slice.ensures.value in
    let interns = subst (λ (n : Node). Interns c.args.self.now c.intern.new.self n number) node_is c.in_ok-number.ensures.ok in
    on_err c.from_residual-in_err-push.result _ (λ start terms term next.
    grows_any start c.intern.new.self (AreTermsAt (items ++ number ∷ []) (terms ++ term ∷ []))
    (step_added start c.args.self.now c.intern.new.self items terms step term number next interns))

pub returns-clause-ok : goal.returns-clause-ok
returns-clause-ok c =
    let items = c.args.numbers.now.items in
    let step = step_of c.args.step in
    let number = c.in_ok-number.number in
    let node_is = c.node_of_step-node.ensures ∙ ap (λ ns. node_of_step ns step) c.as_slice.ensures.value in
    let interns = subst (λ (n : Node). Interns c.args.self.now c.intern.new.self n number) node_is c.in_ok-number.ensures.ok in
    λ start terms term next.
    subst (λ (all : List ℕ). Grows start c.intern.new.self (AreTermsAt all (terms ++ term ∷ []))) (sym c.in_ok-push.ensures.items)
    (step_added start c.args.self.now c.intern.new.self items terms step term number next interns)
