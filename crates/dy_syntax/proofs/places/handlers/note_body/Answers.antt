use Rattle.std.proofs.Common.{sym, ◌∙◌, arith}
use Rattle.dy_syntax.specs.MirrorMeaning.{least_of, scope_of}
use Rattle.dy_syntax.proofs.Bodies.{body_more}
use Rattle.dy_syntax.proofs.places.handlers.note_body.Goals as goal

pub loop-i-preserved : goal.loop-i-preserved
loop-i-preserved c =
    rw (c.in_ok-bind_act.ensures, c.note_act.ensures)
    (sym (body_more _ (scope_of c.loop-i.scope) c.args.body.now c.loop-i.i c.index-body-i.result (least_of c.loop-i.least) (omega arith) c.index-body-i.is) ∙ c.loop-i.invariant)
