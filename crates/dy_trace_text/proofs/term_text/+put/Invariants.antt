use Rattle.std.proofs.Common.{◌+◌, ◌*◌}
use Rattle.dy_term.specs.Terms as trees
use Rattle.dy_flat.specs.Views.{tree_of}
use Rattle.dy_trace_text.proofs.term_text.+put.Given as goal

abbrev pub decreases-put_term : goal.decreases-put_term
decreases-put_term l = 2 * trees.size (tree_of l.term)

abbrev pub decreases-put_one : goal.decreases-put_one
decreases-put_one l = 2 * trees.size (tree_of l.part) + 1

abbrev pub decreases-put_two : goal.decreases-put_two
decreases-put_two l = 2 * (trees.size (tree_of l.first) + trees.size (tree_of l.second)) + 1
