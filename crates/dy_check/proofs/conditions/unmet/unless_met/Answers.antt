use Rattle.dy_check.proofs.FirstUnmet.{one_met, one_unmet}
use Rattle.dy_check.proofs.conditions.unmet.unless_met.Goals as goal

pub returns-then-met : goal.returns-then-met
returns-then-met c = λ setting known demand tells condition field. one_met setting known demand c.args.met c.if-met.true tells

pub returns-else-met : goal.returns-else-met
returns-else-met c = λ setting known demand tells condition field.
    one_unmet setting known demand c.args.met (record { condition = c.args.condition; field = c.args.field }) c.if-met.false tells condition field
