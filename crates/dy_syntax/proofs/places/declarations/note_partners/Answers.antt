use Rattle.std.proofs.Common.{sym, ◌∙◌, arith}
use Rattle.dy_syntax.specs.Meaning.{partner_of}
use Rattle.dy_syntax.specs.MirrorMeaning.{least_of}
use Rattle.dy_syntax.specs.Parts.{parts_of_partner}
use Rattle.dy_syntax.proofs.Noted.{parts_more}
use Rattle.dy_syntax.proofs.places.declarations.note_partners.Goals as goal

pub loop-partner-preserved : goal.loop-partner-preserved
loop-partner-preserved c =
    rw c.note_partner.ensures
    (sym (parts_more parts_of_partner partner_of _ _ c.args.partners.now c.loop-partner.partner-index c.partner-item.result (least_of c.loop-partner.least) (omega arith) c.partner-item.is) ∙ c.loop-partner.invariant)
