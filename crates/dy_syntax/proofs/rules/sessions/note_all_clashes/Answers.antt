use Rattle.std.proofs.Common.{sym, ◌∙◌, arith}
use Rattle.dy_syntax.specs.MirrorMeaning.{least_of}
use Rattle.dy_syntax.proofs.Sessions.{sessions_more}
use Rattle.dy_syntax.proofs.rules.sessions.note_all_clashes.Goals as goal

pub loop-i-preserved : goal.loop-i-preserved
loop-i-preserved c =
    rw (c.note_clashes.ensures, c.split_at.ensures.back) (sym (sessions_more c.args.all.now c.loop-i.i c.index-all-i.result (least_of c.loop-i.least) (omega arith) c.index-all-i.is) ∙ c.loop-i.invariant)
