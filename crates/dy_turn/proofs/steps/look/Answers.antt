use Rattle.std.proofs.Common.{rules}
use Rattle.dy_turn.proofs.LookingKept.{looks}
use Rattle.dy_turn.proofs.steps.look.Goals as goal

pub load-requires : goal.load-requires
load-requires g c = (search rules, search rules, looks g.T.Counted.history g.T.Counted.same_base c.args.top.now.key _ _ c.args.token.now.me c.requires.on.2)
