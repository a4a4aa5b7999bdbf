use Rattle.std.proofs.Common.{refl}
use Rattle.dy_types.specs.Meaning.{claim_of, claims_of}
use Rattle.dy_types.proofs.ClaimLaws.{SayTheSame-push, SayTheSame-refl}
use Rattle.dy_types.proofs.claims.push_claim.Goals as goal

pub returns-then-says_nothing_new-clause-ok : goal.returns-then-says_nothing_new-clause-ok
returns-then-says_nothing_new-clause-ok c =
    let nothing_new = rw c.as_slice.ensures at c.says_nothing_new.ensures in
    SayTheSame-push (claims_of c.args.claims.now) (claim_of c.args.claim) (nothing_new c.if-says_nothing_new.true)
