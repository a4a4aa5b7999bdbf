use Rattle.std.proofs.Common.{sym, ◌∙◌, arith}
use Rattle.dy_syntax.specs.MirrorMeaning.{least_of, sessions_of}
use Rattle.dy_syntax.specs.Rules.Plans.{lines_of_clash}
use Rattle.dy_syntax.proofs.Noted.{lines_more}
use Rattle.dy_syntax.proofs.rules.sessions.note_clashes.Goals as goal

pub loop-other-preserved : goal.loop-other-preserved
loop-other-preserved c =
    rw c.note_clash.ensures
    (sym (lines_more (lines_of_clash (sessions_of c.args.earlier.now)) sessions_of 11 c.args.later.now c.loop-other.other-index c.other-item.result (least_of c.loop-other.least) (omega arith) c.other-item.is)
    ∙ c.loop-other.invariant)
