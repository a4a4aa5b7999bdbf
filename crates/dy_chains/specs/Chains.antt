-- Chains of facts: numbered facts, rules over them, and the log of what follows.
use Rattle.std.specs.Prelude.{◌≡◌, ℕ, ◌+◌, List, ◌++◌}
use Rattle.dy_chains.specs.Lists.{Extends}
use Rattle.std.specs.List.{All}
use Rattle.dy_chains.specs.declared.rules.Rule.{Rule}
use Rattle.dy_chains.specs.declared.logs.Step.{Step}
use Rattle.dy_chains.specs.Rules.{IsBelow}
use Rattle.dy_chains.specs.Logs.{IsLog, IsComplete}

-- The facts are the numbers below `facts`.
pub record Chain : Type 0 where
  pub facts : ℕ
  pub rules : List Rule
  pub log : List Step

-- The rules speak of the facts, and the log has what follows.
pub record IsChain (chain : Chain) : Type 0 where
  pub below : All (IsBelow chain.facts) chain.rules
  pub log : IsLog chain.rules chain.log
  pub complete : IsComplete chain.rules chain.log

-- So many facts and these rules were added, and the log only gained steps at its end.
pub record Grows (old new : Chain) (more : ℕ) (added : List Rule) : Type 0 where
  pub facts : new.facts ≡ old.facts + more
  pub rules : new.rules ≡ old.rules ++ added
  pub log : Extends old.log new.log
