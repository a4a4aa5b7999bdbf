-- Labels and their parts.
use Rattle.std.proofs.Common.{◌≡◌, ℕ, ◌+◌, ◌++◌, [], ◌∷◌, length, ap, ◌∙◌, sym, refl}
use Rattle.dy_label.specs.declared.label_nodes.Whole.{Whole}
use Rattle.dy_label.specs.declared.label_nodes.Whole.TheVariants as kinds
use Rattle.dy_label.specs.Labels as labels
use Rattle.dy_label.specs.Labels.{Label}
use Rattle.dy_label.specs.MirrorRuns.{Node, run_of, last, labels_after, last_node, nodes_of_parts}
use Rattle.dy_label.specs.MirrorNodes.{whole_of, whole_node}
use Rattle.dy_label.proofs.LabelRuns.{labels_from-runs_of, run_of-parts, run_is}

-- the number of nodes
abbrev pub size : Label → ℕ
size labels.Public = 1
size labels.Nobody = 1
size (labels.One reader) = 1
size (labels.Join first second) = size first + size second + 1
size (labels.Meet first second) = size first + size second + 1

-- Where a label's run is two runs and this node, the label is what the node makes of their two labels.
pub label_of_parts : (label first second : Label) (node : Node) → node ≡ last_node label → run_of first ++ run_of second ≡ nodes_of_parts label → last (labels_after (second ∷ first ∷ []) node) ≡ label
label_of_parts label first second node end parts =
    let run : (run_of first ++ run_of second) ++ node ∷ [] ≡ run_of label = rw (parts, end) (sym (run_of-parts label)) in
    ap last (sym (labels_from-runs_of (second ∷ first ∷ []) (node ∷ []))) ∙ run_is _ label run

pub run_of-whole : (whole : Whole) (first second : Label) → run_of (whole_of whole first second) ≡ (run_of first ++ run_of second) ++ whole_node whole (length (run_of first ++ run_of second) + 1) ∷ []
run_of-whole kinds.Join first second = refl
run_of-whole kinds.Meet first second = refl
