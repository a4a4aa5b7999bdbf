use Rattle.std.proofs.Common.{◌∙◌, sym, arith}
use Rattle.dy_flat.specs.Views.{tree_of}
use Rattle.dy_eval.proofs.Sizes.{room_ends, room_falls}
use Rattle.dy_eval.proofs.values.are_small.Goals as goal

pub returns-then-count-room : goal.returns-then-count-room
returns-then-count-room c =
    sym (room_ends tree_of c.args.terms.now c.loop-term.term-index c.term-item.result c.loop-term.room c.nodes-count.result c.loop-term-test.true c.term-item.is c.nodes-count.ensures c.loop-term.invariant.1 c.if-count-room.true)
    ∙ c.loop-term.invariant.0

pub loop-term-preserved : goal.loop-term-preserved
loop-term-preserved c = (
  room_falls tree_of c.args.terms.now c.loop-term.term-index c.term-item.result c.loop-term.room c.nodes-count.result c.loop-term-test.true c.term-item.is c.nodes-count.ensures c.loop-term.invariant.1 c.if-count-room.false
      ∙ c.loop-term.invariant.0,
  omega (arith, c.loop-term.invariant.1),
)
