use Rattle.std.proofs.Common.{rules, ◌≡◌, ◌<◌}
use Rattle.dy_turn.specs.Views.{ticket_of}
use Rattle.dy_turn.specs.declared.known.Stage.TheVariants.{Waiting}
use Rattle.dy_turn.proofs.ServingKept.{serves}
use Rattle.dy_turn.proofs.steps.wait_for.Goals as goal

pub load-served-requires : goal.load-served-requires
load-served-requires g c =
    let same = c.loop.invariant.2 in
    let some_parts : 0 < c.loop.token.me.0.parts = rw same c.requires.on.2 in
    let waits : c.loop.token.me.0.stage ≡ Waiting (ticket_of c.loop.token.me.0.stage) = rw same c.requires.waits.0 in
    (search rules, search rules, serves g.T.Counted.history g.T.Counted.same_base c.args.top.now.key c.loop.token.id c.loop.token.me some_parts _ waits)
