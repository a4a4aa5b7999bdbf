use Rattle.std.proofs.Common.{sym, ◌∙◌}
use Rattle.dy_know.proofs.Walked.{called_here}
use Rattle.dy_know.proofs.declared_events.event_called.Goals as goal

pub returns-then-same : goal.returns-then-same
returns-then-same c =
    sym (called_here c.args.events.now c.loop-event.event-index c.event-item.result c.args.name.now c.loop-event-test.true c.event-item.is (sym c.same.ensures ∙ c.if-same.true)) ∙ c.loop-event.invariant
