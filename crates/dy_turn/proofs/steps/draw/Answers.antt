use Rattle.std.proofs.Common.{rules}
use Rattle.dy_turn.proofs.DrawingKept.{draws}
use Rattle.dy_turn.proofs.steps.draw.Goals as goal

pub fetch_add-requires : goal.fetch_add-requires
fetch_add-requires g c =
    (search rules, search rules, draws g.T.Counted.history g.T.Counted.same_base c.args.top.now.key _ _ c.args.token.now.me c.requires.idle c.requires.on.2)
