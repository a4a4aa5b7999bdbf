use Rattle.std.proofs.Common.{[]}
use Rattle.dy_types.proofs.ClaimLaws.{ClaimsHaveTables-none}
use Rattle.dy_types.proofs.field_types.one_claim.Goals as goal

pub returns : goal.returns
returns c = λ said h. (rw c.new-claims.ensures at c.in_ok-add_claim.ensures.ok) [] said ClaimsHaveTables-none h
