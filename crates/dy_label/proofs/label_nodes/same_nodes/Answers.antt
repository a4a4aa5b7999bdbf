use Rattle.std.proofs.Common.{◌<◌, length, arith, refl}
use Rattle.dy_label.specs.MirrorNodes.{node_of}
use Rattle.dy_label.proofs.Mapped.{same_at, same_more}
use Rattle.dy_label.proofs.label_nodes.same_nodes.Goals as goal

pub returns-then-not-same-clause-other : goal.returns-then-not-same-clause-other
returns-then-not-same-clause-other c = λ _ e.
    let first : c.loop-i.i < length c.args.first.now = omega arith in
    let second : c.loop-i.i < length c.args.second.now = omega arith in
    c.if-not-same.ensures.other refl
    (same_at node_of c.args.first.now c.args.second.now c.loop-i.i c.index-first-i.result c.index-second-i.result e first second c.index-first-i.is c.index-second-i.is)

pub loop-i-preserved : goal.loop-i-preserved
loop-i-preserved c =
    let first : c.loop-i.i < length c.args.first.now = omega arith in
    let second : c.loop-i.i < length c.args.second.now = omega arith in
    same_more node_of c.args.first.now c.args.second.now c.loop-i.i c.index-first-i.result c.index-second-i.result c.loop-i.invariant first second c.index-first-i.is c.index-second-i.is (c.if-not-same.ensures.same refl)
