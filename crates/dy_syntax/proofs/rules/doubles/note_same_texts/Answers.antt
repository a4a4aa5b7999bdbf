use Rattle.std.proofs.Common.{sym, ◌∙◌, arith}
use Rattle.dy_syntax.specs.Meaning.{row_of}
use Rattle.dy_syntax.specs.MirrorMeaning.{least_of}
use Rattle.dy_syntax.specs.Rules.Doubles.{same_text}
use Rattle.dy_syntax.proofs.Noted.{repeated_more}
use Rattle.dy_syntax.proofs.rules.doubles.note_same_texts.Goals as goal

pub loop-i-preserved : goal.loop-i-preserved
loop-i-preserved c =
    rw (c.note_same_text.ensures, c.split_at.ensures.back) (sym (repeated_more same_text _ row_of _ c.args.rows.now c.loop-i.i c.index-rows-i.result (least_of c.loop-i.least) (omega arith) c.index-rows-i.is) ∙ c.loop-i.invariant)
