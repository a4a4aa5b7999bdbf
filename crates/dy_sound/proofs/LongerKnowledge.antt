-- What a handler knows holds in a longer trace too.
use Rattle.std.proofs.Common.{ℕ, List, ◌++◌, inl, inr}
use Rattle.dy_term.specs.Terms.{Term}
use Rattle.dy_label.specs.Words.{Choice}
use Rattle.dy_types.specs.Claims as claims
use Rattle.dy_types.specs.Claims.{Claim, Known}
use Rattle.dy_types.specs.Facts.{Fact}
use Rattle.dy_syntax.specs.Files.{Decl}
use Rattle.dy_typing.specs.Knowledge.{Knowledge}
use Rattle.dy_entry.specs.Entries.{Entry}
use Rattle.dy_entry.specs.ValueLabels.{HasMadeNonces}
use Rattle.dy_eval.specs.Names.{Names}
use Rattle.dy_sound.specs.Names.{value_numbered}
use Rattle.dy_sound.specs.Knowledge.{ClaimHolds, KnownHolds, FactHolds, Holds}
use Rattle.dy_sound.specs.LawsBelow.{LawsBelow}
use Rattle.dy_sound.proofs.Longer.{flows_to_still, flows_from_still, shown_still, has_use_still, is_pk_still, is_vk_still, happened_still}

module _ (below : LawsBelow) (decls : List Decl) (T more : List Entry) (choice : Choice) where
  claim_still : (value : Term) (claim : Claim) → HasMadeNonces T value → ClaimHolds decls T choice value claim → ClaimHolds decls (T ++ more) choice value claim
  claim_still value (claims.Use usage) made h = has_use_still below decls T more value _ made h
  claim_still value (claims.Pk label usage) made h = is_pk_still below decls T more value _ _ made h
  claim_still value (claims.Vk label usage) made h = is_vk_still below decls T more value _ _ made h

  pub known_still : (value : Term) (known : Known) → HasMadeNonces T value → KnownHolds decls T choice value known → KnownHolds decls (T ++ more) choice value known
  known_still value known made h = record {
    is_open_by_hi = flows_to_still below decls T more value made h.is_open_by_hi;
    opens_lo = flows_from_still below decls T more value made h.opens_lo;
    claims_hold = λ claim stands. claim_still value claim made (h.claims_hold claim stands);
  }

  fact_still : (names : Names) (fact : Fact) → FactHolds T choice names fact → FactHolds (T ++ more) choice names fact
  fact_still names fact (inl happened) = inl (happened_still below decls T more fact.event _ happened)
  fact_still names fact (inr shown) = inr (shown_still below decls T more shown)

  pub knowledge_still : (names : Names) (k : Knowledge) → ((number : ℕ) → HasMadeNonces T (value_numbered names number)) → Holds decls T choice names k → Holds decls (T ++ more) choice names k
  knowledge_still names k made h = record {
    variables = h.variables;
    is_numbered = h.is_numbered;
    same = h.same;
    values_hold = λ number. known_still (value_numbered names number) _ (made number) (h.values_hold number);
    facts_hold = λ fact stands. fact_still names fact (h.facts_hold fact stands);
  }
