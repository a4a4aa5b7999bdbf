use Rattle.std.proofs.Common.{◌≡◌, ℕ, suc, ◌+◌, ◌≤◌, List, [], ◌++◌, length, take, sum_by}
use Rattle.dy_label.specs.LabelsMeaning.{places_of}
use Rattle.dy_entry.specs.Entries.{Entry}
use Rattle.dy_entry.specs.LookUps.{corruptions}
use Rattle.dy_know.specs.MirrorAuditors.{KeepsSecrets, AllKnown, AreDerived, breach_count}
use Rattle.dy_know.proofs.learning.learn_all.Given as goal

-- the nonces so far are known
abbrev pub invariant-loop-nonce : goal.invariant-loop-nonce
invariant-loop-nonce l = record {
  secrets : (known : List ℕ) (T : List Entry) → suc l.last ≡ length T → places_of l.corruptions ≡ corruptions T → AllKnown known (take l.last T)
      → AreDerived T l.nonces → KeepsSecrets known [] T l.initial.secrets
      → KeepsSecrets (known ++ take l.nonce-index l.nonces) (take l.nonce-index l.nonces) T l.secrets;
  count : sum_by breach_count l.secrets ≡ sum_by breach_count l.initial.secrets + l.breaches;
  few : l.breaches ≤ l.nonce-index;
}
