use Rattle.std.proofs.Common.{map}
use Rattle.dy_label.specs.MirrorRuns.{run_of}
use Rattle.dy_label.specs.MirrorNodes.{node_of}
use Rattle.dy_label.proofs.LabelRuns.{is_run, run_is}
use Rattle.dy_label.proofs.labels.two_views.Goals as goal

pub invariant_of-result : goal.invariant_of-result
invariant_of-result c = is_run _ c.requires.0 (c.split_last_run.ensures (run_of c.requires.0) c.requires.1 c.requires.2).0

pub invariant_of-result-2 : goal.invariant_of-result-2
invariant_of-result-2 c = is_run _ c.requires.1 (c.split_last_run.ensures (run_of c.requires.0) c.requires.1 c.requires.2).1

pub returns : goal.returns
returns c =
    let split = c.split_last_run.ensures (run_of c.requires.0) c.requires.1 c.requires.2 in
    rw (run_is (map node_of c.split_last_run.result.0.now) c.requires.0 split.0, run_is (map node_of c.split_last_run.result.1.now) c.requires.1 split.1) c.requires.2
