use Rattle.std.proofs.Common.{sym, ◌∙◌, arith}
use Rattle.dy_syntax.specs.Meaning.{id_of}
use Rattle.dy_syntax.specs.MirrorMeaning.{least_of}
use Rattle.dy_syntax.specs.Rules.Doubles.{same_word}
use Rattle.dy_syntax.proofs.Noted.{repeated_more}
use Rattle.dy_syntax.proofs.rules.doubles.note_same_names.Goals as goal

pub loop-i-preserved : goal.loop-i-preserved
loop-i-preserved c =
    rw (c.note_same_name.ensures, c.split_at.ensures.back) (sym (repeated_more same_word _ id_of _ c.args.ids.now c.loop-i.i c.index-ids-i.result (least_of c.loop-i.least) (omega arith) c.index-ids-i.is) ∙ c.loop-i.invariant)
