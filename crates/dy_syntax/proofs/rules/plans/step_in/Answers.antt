use Rattle.std.proofs.Common.{sym, ◌∙◌, arith}
use Rattle.dy_syntax.proofs.Sessions.{step_found}
use Rattle.dy_syntax.proofs.rules.plans.step_in.Goals as goal

pub returns-then-same : goal.returns-then-same
returns-then-same c =
    sym (step_found c.args.steps.now c.loop-step.step-index c.step-item.result c.args.name.now (omega arith) c.step-item.is (sym c.same.ensures ∙ c.if-same.true))
    ∙ c.loop-step.invariant
