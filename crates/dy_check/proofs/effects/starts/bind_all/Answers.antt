use Rattle.std.proofs.Common.{fold, map, take}
use Rattle.dy_syntax.specs.Meaning.{id_of}
use Rattle.dy_types.specs.Claims.{plain}
use Rattle.dy_typing.specs.Effects.{bind_plain}
use Rattle.dy_check.proofs.SideBySide.{fold_more}
use Rattle.dy_check.proofs.effects.starts.bind_all.Goals as goal

pub loop-name-preserved : goal.loop-name-preserved
loop-name-preserved c = λ k h.
    let names = c.args.names.now in
    let i = c.loop-name.name-index in
    rw (fold_more bind_plain k id_of names i c.name-item.result c.loop-name-test.true c.name-item.is)
    (c.in_ok-bind.ensures (fold bind_plain k (map id_of (take i names))) plain (c.loop-name.invariant k h) c.plain.ensures)
