use Rattle.std.proofs.Common.{◌≡◌, map, ◌++◌, length}
use Rattle.dy_flat.specs.Views.{tree_of}
use Rattle.dy_flat.specs.MirrorTuples.{fields_left}
use Rattle.dy_eval.proofs.openings.rest_of.Given as goal

-- the fields so far, and then those left
abbrev pub invariant-loop-field : goal.invariant-loop-field
invariant-loop-field l = map tree_of l.made.items ++ fields_left l.left ≡ fields_left l.initial.left

abbrev pub decreases-loop-field : goal.decreases-loop-field
decreases-loop-field l = length (fields_left l.left)
