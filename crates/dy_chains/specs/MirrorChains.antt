-- What a chain keeps: a log of all that follows, and the rules that wait for each fact.
use Rattle.std.specs.Prelude.{◌<◌, ◌^◌, List, length}
use Rattle.dy_chains.specs.declared.rules.Rule.{Rule}
use Rattle.dy_chains.specs.Chains.{Chain, IsChain}
use Rattle.dy_chains.specs.MirrorLogs.{Log}
use Rattle.dy_chains.specs.MirrorWatchers.{Watcher, AreWatched}

abbrev pub chain_of : Log → List Rule → Chain
chain_of log rules = record { facts = log.facts; rules = rules; log = log.steps }

pub record HoldsChain (log : Log) (rules : List Rule) (watchers : List Watcher) : Type 0 where
  pub chain : IsChain (chain_of log rules)
  pub watched : AreWatched watchers rules
  pub few : length rules < 2 ^ 32
