use Rattle.std.proofs.Common.{rules}
use Rattle.dy_turn.proofs.ReleasingKept.{releases}
use Rattle.dy_turn.proofs.steps.release.Goals as goal

pub fetch_add-requires : goal.fetch_add-requires
fetch_add-requires g c =
    let value = c.requires.value in (
      search rules,
      search rules,
      releases g.T.Counted.history g.T.Counted.same_base c.args.top.now.key _ _ c.args.token.now.me c.requires.works.0 c.requires.works.1 c.requires.on.2 value.value value.carried value.shown value.based,
    )
