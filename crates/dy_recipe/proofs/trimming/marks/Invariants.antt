use Rattle.std.proofs.Common.{◌≤◌, map, length}
use Rattle.dy_recipe.specs.Meaning.{move_of}
use Rattle.dy_recipe.specs.MirrorTrimming.{AreClosedFrom}
use Rattle.dy_recipe.proofs.trimming.marks.Given as goal

abbrev pub invariant-loop-left : goal.invariant-loop-left
invariant-loop-left l = record {
  closed : AreClosedFrom l.left (map move_of l.moves) l.marks.items;
  within : l.left ≤ length l.moves;
}

abbrev pub decreases-loop-left : goal.decreases-loop-left
decreases-loop-left l = l.left
