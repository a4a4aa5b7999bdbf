use Rattle.std.proofs.Common.{sym, ◌∙◌, arith}
use Rattle.dy_syntax.specs.Meaning.{field_of}
use Rattle.dy_syntax.specs.MirrorMeaning.{least_of}
use Rattle.dy_syntax.specs.Parts.{parts_of_type}
use Rattle.dy_syntax.proofs.Noted.{parts_more}
use Rattle.dy_syntax.proofs.places.declarations.note_types.Goals as goal

pub loop-field-preserved : goal.loop-field-preserved
loop-field-preserved c =
    rw c.note_type.ensures
    (sym (parts_more (λ f. parts_of_type f.kind) field_of _ _ c.args.fields.now c.loop-field.field-index c.field-item.result (least_of c.loop-field.least) (omega arith) c.field-item.is) ∙ c.loop-field.invariant)
