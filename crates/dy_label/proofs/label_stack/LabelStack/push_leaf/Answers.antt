use Rattle.std.proofs.Common.{◌≡◌, ◌+◌, ◌++◌, ◌∷◌, [], ◌∙◌, ap, sym, map, length, arith}
use Rattle.std.proofs.lemmas.List.{map-append, length-map}
use Rattle.dy_label.specs.MirrorRuns.{runs_of, labels_after}
use Rattle.dy_label.specs.MirrorNodes.{node_of}
use Rattle.dy_label.proofs.LabelRuns.{are_runs, runs_are, length_le_runs}
use Rattle.dy_label.proofs.LabelStacks.{leaf_after, length-leaf_after}
use Rattle.dy_label.proofs.label_stack.LabelStack.push_leaf.Goals as goal

pub overflow_add-self : goal.overflow_add-self
overflow_add-self c =
    let items = c.self.inside.nodes.items in
    let runs : map node_of items ≡ runs_of c.args.self.now = c.self.invariant.runs ∙ ap runs_of c.self.view_is in
    let counted : c.self.inside.count ≡ length c.args.self.now = c.self.invariant.counted ∙ ap length c.self.view_is in
    let same : length (map node_of items) ≡ length (runs_of c.args.self.now) = ap length runs in
    omega (arith, length_le_runs c.args.self.now, length-map items node_of, c.self.inside.nodes.ok, c.self.inside.nodes.small)

pub invariant_of-self-2 : goal.invariant_of-self-2
invariant_of-self-2 c =
    let runs : map node_of c.self.inside.nodes.items ≡ runs_of c.args.self.now = c.self.invariant.runs ∙ ap runs_of c.self.view_is in
    let more : map node_of c.push.new.self.items ≡ map node_of c.self.inside.nodes.items ++ node_of c.args.leaf ∷ [] =
    ap (map node_of) c.in_ok-push.ensures.items ∙ map-append node_of c.self.inside.nodes.items (c.args.leaf ∷ []) in
    let counted : c.self.inside.count ≡ length c.args.self.now = c.self.invariant.counted ∙ ap length c.self.view_is in
    are_runs _ (labels_after c.args.self.now (node_of c.args.leaf)) _ (more ∙ leaf_after _ _ _ runs c.requires)
    (ap (λ n. n + 1) counted ∙ sym (length-leaf_after c.args.self.now (node_of c.args.leaf) c.requires))

pub returns-clause-ok : goal.returns-clause-ok
returns-clause-ok c =
    let runs : map node_of c.self.inside.nodes.items ≡ runs_of c.args.self.now = c.self.invariant.runs ∙ ap runs_of c.self.view_is in
    let more : map node_of c.push.new.self.items ≡ map node_of c.self.inside.nodes.items ++ node_of c.args.leaf ∷ [] =
    ap (map node_of) c.in_ok-push.ensures.items ∙ map-append node_of c.self.inside.nodes.items (c.args.leaf ∷ []) in
    runs_are _ (labels_after c.args.self.now (node_of c.args.leaf)) (more ∙ leaf_after _ _ _ runs c.requires)
