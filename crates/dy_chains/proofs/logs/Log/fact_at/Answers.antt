use Rattle.std.proofs.Common.{ap}
use Rattle.dy_chains.specs.declared.logs.Step.{Step}
use Rattle.dy_chains.specs.MirrorLogs.{Log}
use Rattle.dy_chains.proofs.LoggedFacts.{item_at}
use Rattle.dy_chains.proofs.logs.Log.fact_at.Goals as goal

pub returns : goal.returns
returns c =
    item_at c.args.self.now c.self.inside.steps.items c.args.place c.index.result.now.fact c.index.result.now
    (ap (λ (l : Log). l.steps) c.self.view_is) c.requires (ap (λ (step : Step). step.fact) c.index.ensures)
