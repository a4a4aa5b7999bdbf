use Rattle.std.proofs.Common.{◌+◌, ◌*◌}
use Rattle.dy_term.specs.Terms as trees
use Rattle.dy_term.specs.Meaning.{tree_of}
use Rattle.dy_flat.proofs.converting.+flatten.Given as goal

abbrev pub decreases-push_tree : goal.decreases-push_tree
decreases-push_tree l = 2 * trees.size (tree_of l.term.now)

abbrev pub decreases-push_one : goal.decreases-push_one
decreases-push_one l = 2 * trees.size (tree_of l.part.now) + 1

abbrev pub decreases-push_two : goal.decreases-push_two
decreases-push_two l = 2 * (trees.size (tree_of l.first.now) + trees.size (tree_of l.second.now)) + 1
