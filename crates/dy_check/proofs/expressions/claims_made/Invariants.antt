use Rattle.std.proofs.Common.{map, take}
use Rattle.dy_label.specs.Words.{StaticLabel}
use Rattle.dy_syntax.specs.Meaning.{decl_of}
use Rattle.dy_types.specs.Claims.{uses_in}
use Rattle.dy_types.specs.Meaning.{claims_of}
use Rattle.dy_types.specs.Tables.{HasTable, ClaimsHaveTables}
use Rattle.dy_check.specs.MirrorKeys.{claims_made}
use Rattle.dy_check.proofs.expressions.claims_made.Given as goal

-- what is claimed for those so far
abbrev pub invariant-loop-claim : goal.invariant-loop-claim
invariant-loop-claim l =
    (lo : StaticLabel) → HasTable lo l.key.lo
    → ClaimsHaveTables (claims_made (map decl_of l.cases) l.made lo (uses_in (claims_of (take l.claim-index l.claim-items)))) (claims_of l.claims)
