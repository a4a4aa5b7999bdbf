use Rattle.std.proofs.Common.{◌++◌, ◌∷◌, [], Result, Ok, Err}
use Rattle.std.specs.Result.{OnOk}
use Rattle.dy_types.specs.Meaning.{claim_of, claims_of}
use Rattle.dy_types.proofs.ClaimLaws.{ClaimsHaveTables-push, ClaimsHaveTables-alike}
use Rattle.dy_types.proofs.claims.add_claim.Goals as goal

on_ok : {T E : Type 0} (r : Result T E) {P Q : Type 0} → (P → Q) → OnOk r P → OnOk r Q
on_ok (Ok x) f h = f h
on_ok (Err e) f h = tt

pub returns-clause-ok : goal.returns-clause-ok
returns-clause-ok c =
    let kept = claims_of c.args.claims.now in
    let claim = claim_of c.args.claim in
    on_ok c.push_claim.result
    (λ same before added h k. ClaimsHaveTables-alike (before ++ added ∷ []) (kept ++ claim ∷ []) (claims_of c.push_claim.new.claims) (ClaimsHaveTables-push before added kept claim h k) same)
    c.push_claim.ensures.ok
