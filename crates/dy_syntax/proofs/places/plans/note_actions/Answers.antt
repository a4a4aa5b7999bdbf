use Rattle.std.proofs.Common.{sym, ◌∙◌, arith}
use Rattle.dy_syntax.specs.Meaning.{step_of}
use Rattle.dy_syntax.specs.MirrorMeaning.{least_of}
use Rattle.dy_syntax.specs.Plans.{Step}
use Rattle.dy_syntax.specs.Places.{parts_of_action}
use Rattle.dy_syntax.proofs.Noted.{parts_more}
use Rattle.dy_syntax.proofs.places.plans.note_actions.Goals as goal

pub loop-step-preserved : goal.loop-step-preserved
loop-step-preserved c =
    rw c.note_action.ensures
    (sym (parts_more (λ (s : Step). parts_of_action c.args.round s.action) step_of _ _ c.args.steps.now c.loop-step.step-index c.step-item.result (least_of c.loop-step.least) (omega arith) c.step-item.is)
    ∙ c.loop-step.invariant)
