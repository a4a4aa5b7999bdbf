use Rattle.std.proofs.Common.{inl, inr}
use Rattle.dy_types.specs.Meaning.{use_of, claim_of}
use Rattle.dy_types.proofs.Steps.{uses_from}
use Rattle.std.proofs.lemmas.Bool.{iff_false}
use Rattle.dy_types.proofs.claims.has_use.Goals as goal

pub loop-claim-preserved : goal.loop-claim-preserved
loop-claim-preserved c =
    let here = c.loop-claim.invariant in
    let step = uses_from claim_of c.args.claims.now c.loop-claim.claim-index c.claim-item.result (use_of c.args.usage.now) c.loop-claim-test.true c.claim-item.is in (
      λ h. elim (step.0 (here.0 h)) [
        | inl now ↦ absurd (iff_false c.is_use.ensures c.if-is_use.false now)
        | inr later ↦ later
      ],
      λ h. here.1 (step.1 (inr h)),
    )
