use Rattle.std.proofs.Common.{◌+◌, ◌++◌, ◌∷◌, [], take, append_assoc}
use Rattle.dy_types.specs.Meaning.{claim_of, claims_of}
use Rattle.dy_types.proofs.ClaimLaws.{SayTheSame-append, SayTheSame-trans}
use Rattle.dy_types.proofs.Steps.{map_more}
use Rattle.dy_types.proofs.claims.add_claims.Goals as goal

pub loop-claim-preserved : goal.loop-claim-preserved
loop-claim-preserved c =
    let old = claims_of c.args.claims.now in
    let item = c.claim-item.result in
    let earlier = claims_of (take c.loop-claim.claim-index c.args.more.now) in
    let here = claims_of c.loop-claim.claims in
    let new = claims_of c.push_claim.new.claims in
    let step = rw c.in_ok-copy.ensures at c.in_ok-push_claim.ensures.ok in
    rw (map_more claim_of c.args.more.now c.loop-claim.claim-index item c.loop-claim-test.true c.claim-item.is, ← append_assoc old earlier (claim_of item ∷ []))
    (SayTheSame-trans ((old ++ earlier) ++ claim_of item ∷ []) (here ++ claim_of item ∷ []) new
    (SayTheSame-append (old ++ earlier) here (claim_of item ∷ []) c.loop-claim.invariant) step)
