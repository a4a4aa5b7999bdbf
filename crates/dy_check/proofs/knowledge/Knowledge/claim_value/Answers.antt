use Rattle.std.proofs.Common.{◌≡◌, ◌++◌, List, Some, sym, ap, subst, ◌∙◌}
use Rattle.std.proofs.lemmas.List.{map-append}
use Rattle.dy_types.specs.Claims.{ClaimOf}
use Rattle.dy_types.specs.Meaning.{claim_of, claims_of, known_of}
use Rattle.dy_types.specs.Tables.{Table, ClaimsHaveTables}
use Rattle.dy_typing.specs.Knowledge.{value_of, known_at, with_claims}
use Rattle.dy_check.specs.Meaning.{knowledge_of, nm_ref_of}
use Rattle.dy_check.proofs.KnowledgeTables.{same_value, with_claims-tables}
use Rattle.dy_check.proofs.knowledge.Knowledge.claim_value.Goals as goal

pub returns : goal.returns
returns c = λ k said h m.
    let name = nm_ref_of c.args.name in
    let number = c.in-Some.number in
    let before = c.in_ok-known.known in
    let value : value_of k name ≡ Some number = same_value k (knowledge_of c.args.self.now) h name ∙ sym c.value_of.ensures ∙ c.in-Some.is in
    let with = with_claims-tables (known_at k number) (known_of before) said (claims_of c.args.said) (c.in_ok-known.ensures k h) m in
    let appended : claims_of c.append.new.self ≡ claims_of before.claims ++ claims_of c.args.said =
    ap claims_of c.in_ok-append.ensures ∙ map-append claim_of before.claims c.args.said in
    rw value (c.set_value.ensures k (with_claims (known_at k number) said) h (record {
      hi = with.hi;
      lo = with.lo;
      claims = subst (λ (claims : List (ClaimOf Table)). ClaimsHaveTables ((known_at k number).claims ++ said) claims) (sym appended) with.claims;
    }))
