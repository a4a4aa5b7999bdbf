use Rattle.std.proofs.Common.{List, ℕ, subst, take}
use Rattle.std.specs.List.{Contains}
use Rattle.dy_derive.proofs.NoncesNoted.{noted_at, nonce_stands}
use Rattle.dy_derive.proofs.knowledge.Knowledge.recipe_of_nonce.Goals as goal

pub returns-in-None-clause-decided : goal.returns-in-None-clause-decided
returns-in-None-clause-decided c =
    let d = c.args.self.now.deductions in
    let nodes = d.nodes.keys in
    λ T stands derives.
    (let at = noted_at nodes (take c.args.self.now.seen d.chain.chain.log) c.args.nonce
    (subst (λ (list : List ℕ). Contains list c.args.nonce) stands.nonces (stands.all c.args.nonce derives)) in
    c.in-None.ensures.missing at.1.fact (nonce_stands nodes at.1 c.args.nonce at.3))
