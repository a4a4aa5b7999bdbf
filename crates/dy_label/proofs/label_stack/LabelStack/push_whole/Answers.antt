use Rattle.std.proofs.Common.{◌≡◌, ℕ, ◌≤◌, ◌++◌, List, ◌∷◌, [], ◌∙◌, ap, map, length, arith}
use Rattle.std.proofs.lemmas.List.{map-append}
use Rattle.dy_label.specs.declared.label_nodes.Node.{Node}
use Rattle.dy_label.specs.declared.label_nodes.Whole.{Whole}
use Rattle.dy_label.specs.Labels.{Label, with_last_two}
use Rattle.dy_label.specs.MirrorRuns.{runs_of, CountsTwoRuns}
use Rattle.dy_label.specs.MirrorNodes.{node_of, whole_of, whole_node}
use Rattle.dy_label.proofs.LabelRuns.{are_runs, runs_are}
use Rattle.dy_label.proofs.LabelStacks.{two_at_end, whole_after, length-with_last_two}
use Rattle.dy_label.proofs.label_stack.LabelStack.push_whole.Goals as goal

-- the nodes once the last node of a whole is pushed, which was counted where the nodes were read
runs_of_pushed : (whole : Whole) (nodes read : List Node) (node : Node) (some : List Label) (n : ℕ) → read ≡ nodes → map node_of nodes ≡ runs_of some → 2 ≤ length some → CountsTwoRuns (map node_of read) n → node_of node ≡ whole_node whole n
    → map node_of (nodes ++ node ∷ []) ≡ runs_of (with_last_two (whole_of whole) some)
runs_of_pushed whole nodes read node some n same stand two counts end =
    map-append node_of nodes (node ∷ []) ∙ ap (λ last. map node_of nodes ++ last ∷ []) end
    ∙ whole_after whole (map node_of nodes) some n stand two (λ before first second e. counts before first second (ap (map node_of) same ∙ e))

pub length_of_two-length-requires : goal.length_of_two-length-requires
length_of_two-length-requires c =
    two_at_end _ c.args.self.now (ap (map node_of) c.deref.ensures.value ∙ c.self.invariant.runs ∙ ap runs_of c.self.view_is) c.requires

pub invariant_of-self-2 : goal.invariant_of-self-2
invariant_of-self-2 c =
    let counted : c.self.inside.count ≡ length c.args.self.now = c.self.invariant.counted ∙ ap length c.self.view_is in
    let shorter = length-with_last_two (whole_of c.args.whole) c.args.self.now c.requires in
    are_runs _ (with_last_two (whole_of c.args.whole) c.args.self.now) _
    (ap (map node_of) c.in_ok-push.ensures.items ∙ runs_of_pushed c.args.whole _ _ _ c.args.self.now _ c.deref.ensures.value (c.self.invariant.runs ∙ ap runs_of c.self.view_is) c.requires c.length_of_two-length.ensures c.node.ensures)
    (omega arith)

pub returns-clause-ok : goal.returns-clause-ok
returns-clause-ok c =
    runs_are _ (with_last_two (whole_of c.args.whole) c.args.self.now)
    (ap (map node_of) c.in_ok-push.ensures.items ∙ runs_of_pushed c.args.whole _ _ _ c.args.self.now _ c.deref.ensures.value (c.self.invariant.runs ∙ ap runs_of c.self.view_is) c.requires c.length_of_two-length.ensures c.node.ensures)
