use Rattle.std.proofs.Common.{sym, ◌∙◌}
use Rattle.dy_flat.specs.Views.{tree_of}
use Rattle.dy_flat.proofs.TupleFields.{pairs_none, pairs_some, pairs_done}
use Rattle.dy_flat.proofs.tuples.has_pairs.Goals as goal

pub returns-in-None : goal.returns-in-None
returns-in-None c = sym (c.loop-passed.invariant ∙ pairs_none c.args.count c.loop-passed._passed (tree_of c.loop-passed.rest) c.loop-passed-test.true c.in-None.ensures)

pub loop-passed-preserved : goal.loop-passed-preserved
loop-passed-preserved c = c.loop-passed.invariant ∙ pairs_some c.args.count c.loop-passed._passed (tree_of c.loop-passed.rest) _ c.loop-passed-test.true c.in-Some.ensures

pub returns : goal.returns
returns c = sym (c.loop-passed.invariant ∙ pairs_done c.args.count c.loop-passed._passed (tree_of c.loop-passed.rest) c.loop-passed-test.false)
