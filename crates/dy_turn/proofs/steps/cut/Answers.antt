use Rattle.std.proofs.Common.{rules, arith}
use Rattle.dy_turn.proofs.SplittingKept.{splits}
use Rattle.dy_turn.proofs.steps.cut.Goals as goal

pub split_seat-requires : goal.split_seat-requires
split_seat-requires g c =
    (search rules, search rules, splits g.T.Counted.history g.T.Counted.same_base c.args.top.now.key _ c.args.token.now.me.0 g.N.Amount.amount (omega arith) (omega arith))
