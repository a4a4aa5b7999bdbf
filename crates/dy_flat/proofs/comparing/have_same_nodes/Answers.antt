use Rattle.std.proofs.Common.{◌≡◌, ◌<◌, ◌++◌, ◌∷◌, [], ◌∙◌, Some, map, take, length, get_or, ap, sym, arith}
use Rattle.std.proofs.lemmas.List.{map_more, take_all}
use Rattle.dy_flat.specs.declared.flat_nodes.Node.TheVariants as code
use Rattle.dy_flat.specs.Meaning.{read, read_all, known_nodes}
use Rattle.dy_flat.specs.Runs.{run_of, term_of}
use Rattle.dy_flat.proofs.WholeRuns.{some_at, same_at}
use Rattle.dy_flat.proofs.comparing.have_same_nodes.Goals as goal

pub same_node-requires-clause-left : goal.same_node-requires-clause-left
same_node-requires-clause-left c = some_at c.args.a.contents.now c.args.a.nodes.now _ c.loop-at.at (code.Lit 0) c.args.a.whole c.loop-at-test.true

pub same_node-requires-clause-right : goal.same_node-requires-clause-right
same_node-requires-clause-right c = some_at c.args.b.contents.now c.args.b.nodes.now _ c.loop-at.at (code.Lit 0) c.args.b.whole (omega arith)

pub returns-then-not-same_node-clause-other : goal.returns-then-not-same_node-clause-other
returns-then-not-same_node-clause-other c = λ _ same.
    let a = c.args.a in
    let b = c.args.b in
    let runs : read_all a.contents.now a.nodes.now ≡ read_all b.contents.now b.nodes.now = a.whole ∙ ap (λ t. map Some (run_of t)) same ∙ sym b.whole in
    c.same_node.ensures.other c.if-not-same_node.true (same_at a.contents.now b.contents.now a.nodes.now b.nodes.now c.loop-at.at (code.Lit 0) (code.Lit 0) runs c.loop-at-test.true)

pub loop-at-preserved : goal.loop-at-preserved
loop-at-preserved c =
    let a = c.args.a in
    let b = c.args.b in
    let at = c.loop-at.at in
    let within : at < length b.nodes.now = omega arith in
    let here : read a.contents.now (get_or a.nodes.now at (code.Lit 0)) ≡ read b.contents.now (get_or b.nodes.now at (code.Lit 0)) = c.same_node.ensures.same c.if-not-same_node.false in
    map_more (read a.contents.now) a.nodes.now at (code.Lit 0) c.loop-at-test.true
    ∙ ap (λ prefix. prefix ++ read a.contents.now (get_or a.nodes.now at (code.Lit 0)) ∷ []) c.loop-at.invariant
    ∙ ap (λ last. read_all b.contents.now (take at b.nodes.now) ++ last ∷ []) here
    ∙ sym (map_more (read b.contents.now) b.nodes.now at (code.Lit 0) within)

pub returns-clause-same : goal.returns-clause-same
returns-clause-same c = λ _.
    let a = c.args.a in
    let b = c.args.b in
    let at = c.loop-at.at in
    let all_a : take at a.nodes.now ≡ a.nodes.now = take_all at a.nodes.now (omega arith) in
    let all_b : take at b.nodes.now ≡ b.nodes.now = take_all at b.nodes.now (omega arith) in
    ap (λ nodes. term_of (known_nodes nodes)) (ap (read_all a.contents.now) (sym all_a) ∙ c.loop-at.invariant ∙ ap (read_all b.contents.now) all_b)
