use Rattle.std.proofs.Common.{◌↔◌, drop, Contains}
use Rattle.dy_types.specs.Claims.{uses_in}
use Rattle.dy_types.specs.Meaning.{use_of, claims_of}
use Rattle.dy_types.proofs.claims.has_use.Given as goal

abbrev pub invariant-loop-claim : goal.invariant-loop-claim
invariant-loop-claim l = Contains (uses_in (claims_of l.claims)) (use_of l.usage) ↔ Contains (uses_in (claims_of (drop l.claim-index l.claims))) (use_of l.usage)
