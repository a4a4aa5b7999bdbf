use Rattle.std.proofs.Common.{ap, subst, ◌∙◌}
use Rattle.dy_chains.specs.Chains.{Chain, IsChain}
use Rattle.dy_chains.specs.Logs.{place_of}
use Rattle.dy_chains.proofs.LoggedFacts.{placed_in}
use Rattle.dy_chains.proofs.chains.Chain.place.Goals as goal

pub returns-clause-exactly : goal.returns-clause-exactly
returns-clause-exactly c =
    placed_in c.args.self.now c.args.fact c.place.result (subst IsChain c.self.view_is c.self.invariant.chain)
    (c.place.ensures ∙ ap (λ (chain : Chain). place_of chain.log c.args.fact) c.self.view_is)
