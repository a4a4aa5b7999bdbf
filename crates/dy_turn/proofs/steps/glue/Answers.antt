use Rattle.std.proofs.Common.{rules}
use Rattle.dy_turn.proofs.JoiningKept.{joins}
use Rattle.dy_turn.proofs.steps.glue.Goals as goal

pub join_seat-requires : goal.join_seat-requires
join_seat-requires g c = (
  search rules,
  search rules,
  search rules,
  search rules,
  joins g.T.Counted.history g.T.Counted.same_base c.args.top.now.key _ c.args.token.now.me.0 _ c.args.other.me.0 c.requires.on.0.2 c.requires.on.1.2 c.requires.idle.0 c.requires.idle.1,
)
