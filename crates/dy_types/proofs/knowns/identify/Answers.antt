use Rattle.std.proofs.Common.{◌++◌}
use Rattle.std.proofs.lemmas.Bool.{and_from}
use Rattle.dy_label.specs.Words.{uses_names_below}
use Rattle.dy_types.specs.Meaning.{claims_of}
use Rattle.dy_types.proofs.ClaimLaws.{ClaimsHaveTables-append, ClaimsHaveTables-alike}
use Rattle.dy_types.proofs.knowns.identify.Goals as goal

pub returns : goal.returns
returns c = λ a b h k.
    let first = claims_of c.args.first.now.claims in
    let second = claims_of c.args.second.now.claims in
    record {
      hi = record {
        names = and_from (uses_names_below 9 a.hi) (uses_names_below 9 b.hi) h.hi.names k.hi.names;
        rows = c.join.ensures.labels a.hi b.hi h.hi.rows k.hi.rows;
      };
      lo = record {
        names = and_from (uses_names_below 9 a.lo) (uses_names_below 9 b.lo) h.lo.names k.lo.names;
        rows = c.meet.ensures.labels a.lo b.lo h.lo.rows k.lo.rows;
      };
      claims = ClaimsHaveTables-alike (a.claims ++ b.claims) (first ++ second) (claims_of c.add_claims.new.claims)
          (ClaimsHaveTables-append a.claims b.claims first second h.claims k.claims)
          (rw (c.in_ok-claims.ensures, c.as_slice.ensures, c.as_slice-2.ensures) at c.in_ok-add_claims.ensures);
    }
