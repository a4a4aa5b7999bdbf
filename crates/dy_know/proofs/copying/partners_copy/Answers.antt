use Rattle.std.proofs.Common.{ap, ◌∙◌, map}
use Rattle.dy_syntax.specs.Meaning.{partner_of}
use Rattle.dy_know.proofs.Walked.{one_copied}
use Rattle.dy_know.proofs.copying.partners_copy.Goals as goal

pub loop-partner-preserved : goal.loop-partner-preserved
loop-partner-preserved c = ap (map partner_of) c.in_ok-push.ensures.ok
    ∙ one_copied partner_of c.loop-partner.made c.args.partners.now c.loop-partner.partner-index c.in_ok-partner_copy.field-0 c.partner-item.result
    c.loop-partner-test.true c.partner-item.is c.in_ok-partner_copy.ensures c.loop-partner.invariant
