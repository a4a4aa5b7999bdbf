use Rattle.std.proofs.Common.{below_more, length, arith, ◌≡◌}
use Rattle.std.proofs.lemmas.List.{length-map}
use Rattle.dy_entry.specs.Meaning.{entry_of, entries_of}
use Rattle.dy_traces.proofs.Prefixes.{below_length}
use Rattle.dy_core.proofs.sessions.running_in.Goals as goal

pub loop-index-preserved : goal.loop-index-preserved
loop-index-preserved c = below_more _ _ c.loop-index.invariant (c.is_running_in.ensures.no c.if-is_running_in.false)

pub returns-clause-idle : goal.returns-clause-idle
returns-clause-idle c = λ instance runs.
    let below = below_length (entries_of c.args.entries.now) instance runs.start runs.stands in
    let same : length (entries_of c.args.entries.now) ≡ length c.args.entries.now = length-map c.args.entries.now entry_of in
    c.loop-index.invariant instance (omega arith) runs
