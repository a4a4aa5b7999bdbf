use Rattle.std.proofs.Common.{◌++◌, [], ◌∙◌, List, ℕ, Option, ap, sym, append_assoc, arith, take}
use Rattle.std.specs.List.{cons_option}
use Rattle.dy_derive.specs.MirrorNonces.{nonces_in}
use Rattle.dy_derive.proofs.NoncesNoted.{nonces_more}
use Rattle.dy_derive.proofs.nonces.push_each.Goals as goal

pub loop-step-preserved : goal.loop-step-preserved
loop-step-preserved c =
    let nodes = c.args.nodes.now.keys in
    let steps = c.args.steps.now in
    let at = c.loop-step.step-index in (
      c.push_found.ensures.items ∙ ap (λ (list : List ℕ). list ++ cons_option c.nonce_at.result []) c.loop-step.invariant.0
          ∙ append_assoc c.args.nonces.now.items (nonces_in nodes (take at steps)) (cons_option c.nonce_at.result [])
          ∙ ap (λ (more : List ℕ). c.args.nonces.now.items ++ more)
          (ap (λ (o : Option ℕ). nonces_in nodes (take at steps) ++ cons_option o []) c.nonce_at.ensures ∙ sym (nonces_more nodes steps at _ c.loop-step-test.true)),
      omega (arith, c.loop-step.invariant.1, c.push_found.ensures.one, c.push_found.ensures.capacity, c.loop-step-test.true),
    )
