use Rattle.std.proofs.Common.{◌≡◌, ◌++◌, ◌∷◌, [], ◌∙◌, Some, map, take, get_or, ap, sym, arith}
use Rattle.std.proofs.lemmas.List.{append-nil, append_assoc, map-append, map_more, take_all}
use Rattle.dy_flat.specs.declared.flat_nodes.Node.TheVariants as code
use Rattle.dy_flat.specs.Meaning.{read, read_all}
use Rattle.dy_flat.specs.Runs.{run_of}
use Rattle.dy_flat.specs.Views.{tree_of}
use Rattle.dy_flat.proofs.Lookups.{map-Some-same}
use Rattle.dy_flat.proofs.WholeRuns.{some_at}
use Rattle.dy_flat.proofs.runs.Run.push_view.Goals as goal

pub loop-node-init : goal.loop-node-init
loop-node-init c = sym (append-nil (map Some c.args.self.now))

pub push_copied-requires : goal.push_copied-requires
push_copied-requires c =
    some_at c.args.view.contents.now c.args.view.nodes.now _ c.loop-node.node-index (code.Lit 0) c.args.view.whole c.loop-node-test.true

pub loop-node-preserved : goal.loop-node-preserved
loop-node-preserved c =
    let before = map Some c.args.self.now in
    let view = c.args.view in
    let at = c.loop-node.node-index in
    c.in_ok-push_copied.ensures ∙ ap (λ prefix. prefix ++ read view.contents.now (get_or view.nodes.now at (code.Lit 0)) ∷ []) c.loop-node.invariant ∙ append_assoc before _ _
    ∙ ap (λ back. before ++ back) (sym (map_more (read view.contents.now) view.nodes.now at (code.Lit 0) c.loop-node-test.true))

pub returns : goal.returns
returns c =
    let view = c.args.view in
    let whole : take c.loop-node.node-index view.nodes.now ≡ view.nodes.now = take_all c.loop-node.node-index view.nodes.now (omega arith) in
    map-Some-same _ _
    (c.loop-node.invariant ∙ ap (λ nodes. map Some c.args.self.now ++ read_all view.contents.now nodes) whole
    ∙ ap (λ back. map Some c.args.self.now ++ back) view.whole ∙ sym (map-append Some c.args.self.now (run_of (tree_of view))))
