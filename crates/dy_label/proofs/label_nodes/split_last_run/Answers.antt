use Rattle.std.proofs.Common.{◌≡◌, ◌+◌, ◌-◌, length, arith}
use Rattle.dy_label.specs.MirrorRuns.{run_of}
use Rattle.dy_label.specs.MirrorNodes.{node_of}
use Rattle.dy_label.proofs.LabelRuns.{run_length_at_end, run_is_within, run_of-not_empty, split_at_run}
use Rattle.dy_label.proofs.label_nodes.split_last_run.Goals as goal

pub overflow_sub-nodes : goal.overflow_sub-nodes
overflow_sub-nodes c =
    let last = run_length_at_end node_of c.args.nodes.now c.in-Some.field-0-1.now c.in-Some.last.now c.requires.0 c.requires.1 c.in-Some.ensures.cases.0 c.requires.2 in
    let within = run_is_within node_of c.args.nodes.now c.requires.0 c.requires.1 c.requires.2 in
    omega (arith, c.run_length.ensures)

pub unreachable-requires : goal.unreachable-requires
unreachable-requires c =
    let within = run_is_within node_of c.args.nodes.now c.requires.0 c.requires.1 c.requires.2 in
    let some = run_of-not_empty c.requires.1 in
    omega (arith, c.in-None.ensures)

pub returns : goal.returns
returns c = λ before label run.
    let last = run_length_at_end node_of c.args.nodes.now c.in-Some.field-0-1.now c.in-Some.last.now before label c.in-Some.ensures.cases.0 run in
    let within = run_is_within node_of c.args.nodes.now before label run in
    let at_run : (length c.args.nodes.now - c.run_length.result) + length (run_of label) ≡ length c.args.nodes.now = omega (arith, c.run_length.ensures) in
    let split = split_at_run node_of c.args.nodes.now before label (length c.args.nodes.now - c.run_length.result) run at_run in
    rw (c.split_at.ensures.front, c.split_at.ensures.back) split
