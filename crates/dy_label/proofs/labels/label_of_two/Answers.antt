use Rattle.std.proofs.Common.{◌≡◌, ℕ, ◌+◌, ◌++◌, List, [], ◌∷◌, ◌∙◌, ap, sym, refl, map, length}
use Rattle.std.proofs.lemmas.List.{map-append, length-map}
use Rattle.dy_label.specs.declared.label_nodes.Node.{Node}
use Rattle.dy_label.specs.declared.label_nodes.Whole.{Whole}
use Rattle.dy_label.specs.Labels.{Label}
use Rattle.dy_label.specs.MirrorRuns.{run_of}
use Rattle.dy_label.specs.MirrorNodes.{node_of, whole_of, whole_node}
use Rattle.dy_label.proofs.LabelParts.{run_of-whole}
use Rattle.dy_label.proofs.LabelRuns.{is_run, run_is}
use Rattle.dy_label.proofs.labels.label_of_two.Goals as goal

-- the nodes of two labels and the last node of a whole are the run of the whole
run_of_two : (whole : Whole) (first second : Label) (parts : List Node) (node : Node) (n : ℕ) → map node_of parts ≡ run_of first ++ run_of second → n ≡ length parts → node_of node ≡ whole_node whole (n + 1)
    → map node_of (parts ++ node ∷ []) ≡ run_of (whole_of whole first second)
run_of_two whole first second parts node n run counted end =
    let number : n ≡ length (run_of first ++ run_of second) = counted ∙ sym (length-map parts node_of) ∙ ap length run in
    rw (map-append node_of parts (node ∷ []), run, end, number, run_of-whole whole first second) refl

pub invariant_of-result : goal.invariant_of-result
invariant_of-result c =
    is_run _ (whole_of c.args.whole c.args.first c.args.second)
    (ap (map node_of) c.in_ok-push.ensures.items ∙ run_of_two c.args.whole c.args.first c.args.second _ _ c.len-length.result c.in_ok-nodes.ensures (c.len-length.ensures ∙ c.in_ok-nodes.nodes.ok.0) c.node.ensures)

pub returns : goal.returns
returns c =
    run_is _ (whole_of c.args.whole c.args.first c.args.second)
    (ap (map node_of) c.in_ok-push.ensures.items ∙ run_of_two c.args.whole c.args.first c.args.second _ _ c.len-length.result c.in_ok-nodes.ensures (c.len-length.ensures ∙ c.in_ok-nodes.nodes.ok.0) c.node.ensures)
