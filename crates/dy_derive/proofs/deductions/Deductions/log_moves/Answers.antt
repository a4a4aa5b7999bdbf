use Rattle.dy_derive.proofs.LogValues.{log_moves_more}
use Rattle.dy_derive.proofs.deductions.Deductions.log_moves.Goals as goal

pub loop-step-preserved : goal.loop-step-preserved
loop-step-preserved c =
    let self = c.args.self.now in
    log_moves_more self.nodes.keys self.chain.chain.rules self.chain.reasons.items self.chain.chain.log c.args.steps.now c.loop-step.step-index
    c.loop-step.moves.items c.push.new.self.items (record { fact = 0; rule = 0 }) c.in_ok-step_move.field-0 c.requires c.loop-step-test.true c.in_ok-push.ensures.items
    c.in_ok-step_move.ensures c.loop-step.invariant
