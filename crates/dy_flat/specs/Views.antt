-- Which terms views stand for.
use Rattle.dy_flat.specs.declared.views.View.{View}
use Rattle.dy_flat.specs.Runs.{term_of}
use Rattle.dy_flat.specs.Meaning.{read_all, known_nodes}
use Rattle.dy_term.specs.Terms.{Term}

abbrev pub tree_of : View → Term
tree_of view = term_of (known_nodes (read_all view.contents.now view.nodes.now))
