-- What nodes and kinds of label in the code stand for.
use Rattle.std.specs.Prelude.{ℕ}
use Rattle.dy_label.specs.declared.label_nodes.Node.{Node}
use Rattle.dy_label.specs.declared.label_nodes.Node.TheVariants as code
use Rattle.dy_label.specs.declared.label_nodes.Whole.{Whole}
use Rattle.dy_label.specs.declared.label_nodes.Whole.TheVariants as kinds
use Rattle.dy_label.specs.Labels.{Label, Join, Meet}
use Rattle.dy_label.specs.MirrorRuns as runs
use Rattle.dy_label.specs.LabelsMeaning.{place_of_reader}

abbrev pub node_of : Node → runs.Node
node_of code.Public = runs.Public
node_of code.Nobody = runs.Nobody
node_of (code.One reader) = runs.One (place_of_reader reader)
node_of (code.Join nodes) = runs.Join nodes
node_of (code.Meet nodes) = runs.Meet nodes

-- the label of this kind, of the two parts
abbrev pub whole_of : Whole → Label → Label → Label
whole_of kinds.Join = Join
whole_of kinds.Meet = Meet

-- the node that ends the run of a label of this kind, where the run has so many nodes
abbrev pub whole_node : Whole → ℕ → runs.Node
whole_node kinds.Join = runs.Join
whole_node kinds.Meet = runs.Meet
