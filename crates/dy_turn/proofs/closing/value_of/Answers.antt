use Rattle.dy_turn.proofs.ClosingKept.{ends}
use Rattle.dy_turn.proofs.closing.value_of.Goals as goal

pub unreachable-requires : goal.unreachable-requires
unreachable-requires g c =
    (ends g.T.Counted.history g.T.Counted.same_base c.args.board.shared.key _ c.args.token.me.0 _ _ _ c.close_with-closed.ensures.values.2 c.take-slot.ensures.value c.requires.on.2 c.requires.whole c.requires.idle).some_value
    c.in-None.is

pub returns-clause-history : goal.returns-clause-history
returns-clause-history g c =
    (ends g.T.Counted.history g.T.Counted.same_base c.args.board.shared.key _ c.args.token.me.0 _ _ _ c.close_with-closed.ensures.values.2 c.take-slot.ensures.value c.requires.on.2 c.requires.whole c.requires.idle).shown
    _ c.in-Some.is

pub returns-clause-base : goal.returns-clause-base
returns-clause-base g c =
    (ends g.T.Counted.history g.T.Counted.same_base c.args.board.shared.key _ c.args.token.me.0 _ _ _ c.close_with-closed.ensures.values.2 c.take-slot.ensures.value c.requires.on.2 c.requires.whole c.requires.idle).based
    _ c.in-Some.is
