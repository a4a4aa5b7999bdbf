use Rattle.std.proofs.Common.{◌≡◌, ℕ, List, drop, sum_by}
use Rattle.dy_entry.specs.Entries.{Entry}
use Rattle.dy_derive.specs.KnowledgeMeaning.{Stands}
use Rattle.dy_know.specs.MirrorAuditors.{KeepsSecrets, AreDerived, breach_count}
use Rattle.dy_know.proofs.explaining.add_recipes.Given as goal

-- the nonces so far have their recipes
abbrev pub invariant-loop-nonce : goal.invariant-loop-nonce
invariant-loop-nonce l = record {
  secrets : (T : List Entry) (known : List ℕ) → Stands l.knowledge T → AreDerived T l.nonces → KeepsSecrets known l.nonces T l.initial.secrets
      → KeepsSecrets known (drop l.nonce-index l.nonces) T l.secrets;
  count : sum_by breach_count l.secrets ≡ sum_by breach_count l.initial.secrets;
}
