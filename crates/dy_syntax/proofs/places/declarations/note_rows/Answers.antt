use Rattle.std.proofs.Common.{sym, ◌∙◌, arith}
use Rattle.dy_syntax.specs.Meaning.{row_of, usage_of}
use Rattle.dy_syntax.specs.MirrorMeaning.{least_of}
use Rattle.dy_syntax.specs.Parts.{OfRow}
use Rattle.dy_syntax.proofs.Noted.{mapped_more}
use Rattle.dy_syntax.proofs.places.declarations.note_rows.Goals as goal

pub loop-row-preserved : goal.loop-row-preserved
loop-row-preserved c =
    rw c.note_of_row.ensures
    (sym (mapped_more (OfRow (usage_of c.args.usage.now)) row_of _ _ c.args.rows.now c.loop-row.row-index c.row-item.result (least_of c.loop-row.least) (omega arith) c.row-item.is) ∙ c.loop-row.invariant)
