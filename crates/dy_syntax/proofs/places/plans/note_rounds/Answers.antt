use Rattle.std.proofs.Common.{sym, ◌∙◌, arith}
use Rattle.dy_syntax.specs.MirrorMeaning.{least_of}
use Rattle.dy_syntax.proofs.Rounds.{rounds_more}
use Rattle.dy_syntax.proofs.places.plans.note_rounds.Goals as goal

pub loop-i-preserved : goal.loop-i-preserved
loop-i-preserved c =
    rw (c.note_actions.ensures, c.in_ok-note_together.ensures, c.as_slice-steps.ensures, ← c.index-rounds-i.is)
    (sym (rounds_more _ _ c.args.rounds.now c.loop-i.i c.index-rounds-i.result (least_of c.loop-i.least) (omega arith) c.index-rounds-i.is) ∙ c.loop-i.invariant)
