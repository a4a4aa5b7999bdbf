use Rattle.std.proofs.Common.{◌≡◌, ◌+◌, ◌-◌, ◌∷◌, [], ◌++◌, length, subst, sym, ap, ◌∙◌, arith, length-append}
use Rattle.dy_derive.specs.Nodes.{AreOrdered}
use Rattle.dy_derive.proofs.NodesBelow.{added_below, ordered_more}
use Rattle.dy_derive.proofs.FoundNodes.{inserted}
use Rattle.dy_derive.proofs.deductions.Deductions.add.Goals as goal

pub add-requires-clause-below : goal.add-requires-clause-below
add-requires-clause-below c =
    added_below c.args.self.now.chain.chain.facts (c.in_ok-count.count - 1) c.args.self.now.nodes.keys c.args.node _ _ c.args.self.now.facts
    (omega (arith, c.in_ok-count.ensures, c.len.ensures.len)) c.decryption_key.ensures c.rules_of-few.ensures.rules c.args.self.now.ordered c.requires.parts

pub invariant_of-self-2 : goal.invariant_of-self-2
invariant_of-self-2 c =
    let nodes = c.args.self.now.nodes.keys in
    let keys : c.insert.new.self.keys ≡ nodes ++ c.args.node ∷ [] =
    inserted nodes c.reserve.new.self.keys c.insert.new.self.keys c.args.node c.insert.result c.requires.new c.in_ok-reserve.ensures.keys
    (c.insert.ensures.succeeds (omega (arith, c.in_ok-reserve.ensures.ok))) c.insert.ensures.keys in
    let count : length c.insert.new.self.keys ≡ length nodes + 1 = ap length keys ∙ length-append nodes (c.args.node ∷ []) in
    record {
      facts = c.in_ok-add.ensures.chain.facts ∙ ap (λ n. n + 1) c.args.self.now.facts ∙ sym count;
      few = omega (arith, count, c.in_ok-count.ensures, c.len.ensures.len);
      ordered = subst AreOrdered (sym keys) (ordered_more nodes c.args.node c.args.self.now.ordered c.requires.parts);
    }
