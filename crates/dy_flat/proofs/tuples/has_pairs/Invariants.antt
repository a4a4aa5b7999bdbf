use Rattle.std.proofs.Common.{◌≡◌, ◌-◌}
use Rattle.dy_flat.specs.Views.{tree_of}
use Rattle.dy_flat.specs.MirrorTuples.{has_pairs}
use Rattle.dy_flat.proofs.tuples.has_pairs.Given as goal

abbrev pub invariant-loop-passed : goal.invariant-loop-passed
invariant-loop-passed l = has_pairs l.count (tree_of l.view) ≡ has_pairs (l.count - l._passed) (tree_of l.rest)
