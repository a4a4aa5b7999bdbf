use Rattle.std.proofs.Common.{◌≡◌, arith, ap}
use Rattle.dy_turn.specs.Indices.{times, union_of}
use Rattle.dy_turn.specs.Seats.{own}
use Rattle.dy_turn.proofs.Fitting.{own_once}
use Rattle.dy_turn.proofs.Ranges.{times-union_of}
use Rattle.dy_turn.proofs.turns.Turn.join.Goals as goal

pub returns-clause-apart : goal.returns-clause-apart
returns-clause-apart g c index =
    let both : times index c.glue.new.token.me.0.own ≡ times index (union_of (own c.args.seat.now) (own c.args.other)) = ap (λ me. times index me.0.own) c.glue.ensures.joined in
    omega (arith, own_once c.glue.new.token.me.0 c.look.ensures.fits index, times-union_of index (own c.args.seat.now) (own c.args.other))
