use Rattle.std.proofs.Common.{take, ◌++◌}
use Rattle.dy_types.specs.Meaning.{claims_of}
use Rattle.dy_types.specs.MirrorClaims.{SayTheSame}
use Rattle.dy_types.proofs.claims.add_claims.Given as goal

abbrev pub invariant-loop-claim : goal.invariant-loop-claim
invariant-loop-claim l = SayTheSame (claims_of l.initial.claims ++ claims_of (take l.claim-index l.more)) (claims_of l.claims)
