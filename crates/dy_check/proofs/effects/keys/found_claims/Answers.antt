use Rattle.std.proofs.Common.{[], refl, sym, ◌∙◌}
use Rattle.dy_types.specs.Claims as claims
use Rattle.dy_types.specs.Meaning.{use_of}
use Rattle.dy_types.proofs.ClaimLaws.{ClaimsHaveTables-none}
use Rattle.dy_check.proofs.effects.keys.found_claims.Goals as goal
use Rattle.dy_check.proofs.effects.keys.found_claims.Goals.{then-is_of_kind+in_ok-add_claim, else-is_of_kind+then-is_of_kind-2+in_ok-add_claim-2, else-is_of_kind+else-is_of_kind-2}

pub returns : goal.returns
returns c = λ label t.
    let usage = use_of c.args.usage in
    elim c.if-is_of_kind.branch [
      | then-is_of_kind+in_ok-add_claim w ↦
          rw (w.claims-is, sym c.is_of_kind.ensures ∙ w.if-is_of_kind.true)
          ((rw c.new-claims.ensures at w.in_ok-add_claim.ensures.ok) [] (claims.Pk label usage) ClaimsHaveTables-none (t, refl))
      | else-is_of_kind+then-is_of_kind-2+in_ok-add_claim-2 w ↦
          rw (w.claims-is, sym c.is_of_kind.ensures ∙ w.if-is_of_kind.false, sym w.is_of_kind-else-is_of_kind.ensures ∙ w.if-is_of_kind-2.true)
          ((rw c.new-claims.ensures at w.in_ok-add_claim-2.ensures.ok) [] (claims.Vk label usage) ClaimsHaveTables-none (t, refl))
      | else-is_of_kind+else-is_of_kind-2 w ↦
          rw (w.claims-is, sym c.is_of_kind.ensures ∙ w.if-is_of_kind.false, sym w.is_of_kind-else-is_of_kind.ensures ∙ w.if-is_of_kind-2.false, c.new-claims.ensures)
          ClaimsHaveTables-none
    ]
