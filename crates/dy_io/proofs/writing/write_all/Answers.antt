use Rattle.std.proofs.Common.{◌∙◌, arith}
use Rattle.dy_io.proofs.Writes.{Appends-more, length-rest, took_some}
use Rattle.dy_io.proofs.writing.write_all.Goals as goal

pub loop-done-preserved : goal.loop-done-preserved
loop-done-preserved g c =
    let bytes = c.args.bytes.now in
    let done = c.loop-done.done in
    let n = c.in-Ok.n in (
      omega (arith, c.in-Ok.ensures.within, length-rest done bytes),
      Appends-more _ _ _ bytes done n c.loop-done.invariant.1 c.in-Ok.ensures.added,
      c.in-Ok.ensures.cause.kept (took_some n _ c.in-Ok.n-test.1) ∙ c.loop-done.invariant.2,
    )
