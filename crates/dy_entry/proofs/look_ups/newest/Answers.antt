use Rattle.dy_entry.proofs.Traces.{one_more, newest-more}
use Rattle.dy_entry.proofs.look_ups.newest.Goals as goal

pub loop-entry-preserved : goal.loop-entry-preserved
loop-entry-preserved c =
    let more = one_more c.args.entries.now c.loop-entry.entry-index c.entry-item.result c.loop-entry-test.true c.entry-item.is in
    rw more (rw newest-more (cc))
