-- How the rules that have a fact as a premise are tried, from the newest back.
use Rattle.std.specs.Prelude.{◌≡◌, ℕ, ◌<◌, ◌≤◌, List, Option, Some, length, slice_get}
use Rattle.dy_chains.specs.declared.rules.Rule.{Rule}
use Rattle.dy_chains.specs.MirrorLogs.{Log, Gains, IsTried, IsClosed}
use Rattle.dy_chains.specs.MirrorWatchers.{Watcher, IsLastBefore}

-- The watchers of the fact from some place on were tried, and the next is the last before it.
pub record IsWalked (rules : List Rule) (watchers : List Watcher) (fact : ℕ) (old new : Log) (next : Option ℕ)
    : Type 0 where
  pub bound : ℕ
  pub within : bound ≤ length watchers
  pub left : IsLastBefore watchers bound fact next
  pub gains : Gains rules old new
  pub tried : (place number : ℕ) → bound ≤ place
      → slice_get watchers place ≡ Some (record { fact = fact; rule = number })
      → IsTried rules new.steps (length old.steps) number

-- The rules from the first to this number were tried.
pub record AreTried (rules : List Rule) (old new : Log) (first end : ℕ) : Type 0 where
  pub gains : Gains rules old new
  pub tried : (number : ℕ) → first ≤ number → number < end → IsTried rules new.steps (length old.steps) number

-- So many facts of the log are done: what rules conclude from them is logged.
pub record IsDone (rules : List Rule) (old new : Log) (done : ℕ) : Type 0 where
  pub within : done ≤ length new.steps
  pub gains : Gains rules old new
  pub closed : IsClosed rules new.steps done
