use Rattle.std.proofs.Common.{◌<◌, ◌-◌, length, reverse, vec_len, vec_capacity, IsSome, refl, ap, subst, sym, ◌∙◌, arith, rules}
use Rattle.std.proofs.lemmas.List.{length-drop, length-reverse}
use Rattle.dy_flat.specs.declared.flat_nodes.Node.TheVariants as code
use Rattle.std.specs.Option.{option_map}
use Rattle.dy_flat.specs.declared.flat_nodes.Node.{Node}
use Rattle.dy_flat.specs.Meaning.{read, arity}
use Rattle.dy_flat.specs.MirrorWalks.{without, step_over}
use Rattle.dy_flat.proofs.WholeRuns.{some_at}
use Rattle.dy_flat.proofs.WalkedRuns.{are_few, no_steps, next_step, next_unused, pushed}
use Rattle.dy_flat.proofs.walking.WalkIterator.next.Goals as goal

pub returns-then-self-eq0-clause-steps : goal.returns-then-self-eq0-clause-steps
returns-then-self-eq0-clause-steps c =
    let none = no_steps c.args.self.now.view c.args.self.now.left c.if-self-eq0.true in (none, none)

pub node_at-node-requires : goal.node_at-node-requires
node_at-node-requires c = omega (arith, c.args.self.now.within, c.if-self-eq0.false)

pub step_at-step-requires : goal.step_at-step-requires
step_at-step-requires c =
    let view = c.args.self.now.view in
    let Known : Node → Type 0 = λ node. IsSome (read view.contents.now node) in
    subst Known (sym c.node_at-node.ensures)
    (some_at view.contents.now view.nodes.now _ (c.args.self.now.left - 1) (code.Lit 0) view.whole (omega (arith, c.args.self.now.within, c.if-self-eq0.false)))

pub invariant_of-self : goal.invariant_of-self
invariant_of-self c =
    let walk = c.args.self.now in
    let nodes = walk.view.nodes.now in
    let few = are_few walk.unused.items nodes walk.left walk.numbers in
    let room : vec_len c.step_at-step.new.unused < vec_capacity c.step_at-step.new.unused =
    omega (arith, few, length-reverse walk.unused.items, length-drop walk.left nodes, walk.unused.ok.0, walk.within, walk.room, c.if-self-eq0.false, c.step_at-step.ensures.len, c.step_at-step.ensures.capacity) in
    let added = pushed c.push.result c.push.new.self.items c.step_at-step.new.unused.items (length nodes - walk.left) c.push.ensures.items (c.push.ensures.succeeds room) in
    record {
      within = omega (arith, walk.within);
      room = omega (arith, walk.room, c.push.ensures.capacity, c.step_at-step.ensures.capacity);
      numbers = next_unused nodes walk.left _ walk.unused.items c.step_at-step.new.unused.items c.push.new.self.items (omega arith) walk.within refl walk.numbers (c.step_at-step.ensures.left ∙ ap (λ node. without (arity node) (reverse walk.unused.items)) c.node_at-node.ensures) added;
    }

pub returns-clause-steps : goal.returns-clause-steps
returns-clause-steps c =
    let walk = c.args.self.now in
    next_step walk.view walk.left walk.unused.items _ (omega arith) walk.within walk.numbers (ap (λ node. option_map (λ n. step_over n (reverse walk.unused.items)) (read walk.view.contents.now node)) (sym c.node_at-node.ensures) ∙ c.step_at-step.ensures.step)

pub returns-clause-goes : goal.returns-clause-goes
returns-clause-goes c =
    let walk = c.args.self.now in
    let steps = next_step walk.view walk.left walk.unused.items _ (omega arith) walk.within walk.numbers (ap (λ node. option_map (λ n. step_over n (reverse walk.unused.items)) (read walk.view.contents.now node)) (sym c.node_at-node.ensures) ∙ c.step_at-step.ensures.step) in
    let shorter = ap length steps in search rules
