use Rattle.dy_term.specs.Terms as trees
use Rattle.dy_flat.specs.Views.{tree_of}
use Rattle.dy_flat.proofs.converting.+to_tree.Given as goal

abbrev pub decreases-to_tree : goal.decreases-to_tree
decreases-to_tree l = trees.size (tree_of l.view)
