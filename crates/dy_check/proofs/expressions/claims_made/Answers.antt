use Rattle.std.proofs.Common.{take, sym, arith}
use Rattle.std.proofs.lemmas.List.{take_all}
use Rattle.dy_syntax.specs.Meaning.{decl_of}
use Rattle.std.proofs.Common.{map}
use Rattle.dy_types.specs.Claims.{uses_in}
use Rattle.dy_types.specs.Meaning.{claim_of, claims_of, known_of}
use Rattle.dy_check.specs.MirrorKeys.{claims_made}
use Rattle.dy_check.proofs.MadeClaims.{claims_made_more, claims_made_same}
use Rattle.dy_check.proofs.expressions.claims_made.Goals as goal

pub loop-claim-preserved : goal.loop-claim-preserved
loop-claim-preserved c = λ lo h.
    let decls = map decl_of c.args.cases.now in
    let items = c.as_slice-claim-items.result.now in
    let i = c.loop-claim.claim-index in
    rw (claims_made_more claim_of decls c.args.made lo items i c.claim-item.result c.loop-claim-test.true c.claim-item.is)
    (c.in_ok-add_made.ensures (claims_made decls c.args.made lo (uses_in (claims_of (take i items)))) lo (c.loop-claim.invariant lo h) h)

pub returns : goal.returns
returns c = λ value h.
    let items = c.as_slice-claim-items.result.now in
    let all = c.loop-claim.invariant value.lo h.lo in
    claims_made_same (map decl_of c.args.cases.now) c.args.made value (known_of c.args.key.now) (claims_of c.loop-claim.claims) h
    (rw (sym c.as_slice-claim-items.ensures) (rw (take_all c.loop-claim.claim-index items (omega arith)) at all))
