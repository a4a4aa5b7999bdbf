use Rattle.std.proofs.Common.{◌≡◌, take}
use Rattle.dy_types.proofs.claims.copy_claims.Given as goal

abbrev pub invariant-loop-claim : goal.invariant-loop-claim
invariant-loop-claim l = l.copied ≡ take l.claim-index l.claims
