use Rattle.std.proofs.Common.{◌+◌, ◌*◌}
use Rattle.dy_term.specs.Terms.{size}
use Rattle.dy_term.specs.Meaning.{tree_of}
use Rattle.dy_term.proofs.term_text.+put.Given as goal

abbrev pub decreases-put_term : goal.decreases-put_term
decreases-put_term l = 2 * size (tree_of l.term.now)

abbrev pub decreases-put_one : goal.decreases-put_one
decreases-put_one l = 2 * size (tree_of l.part.now) + 1

abbrev pub decreases-put_two : goal.decreases-put_two
decreases-put_two l = 2 * (size (tree_of l.first.now) + size (tree_of l.second.now)) + 1
