use Rattle.dy_chains.proofs.Places.{placed_logged}
use Rattle.dy_chains.proofs.logs.Log.has.Goals as goal

pub returns : goal.returns
returns c = placed_logged c.args.self.now.steps c.args.fact c.place.result c.is_some.result c.place.ensures c.is_some.ensures
