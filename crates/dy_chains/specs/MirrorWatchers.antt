-- How the rules that have a fact as a premise are found: from the newest back.
use Rattle.std.specs.Prelude.{◌≡◌, ℕ, ◌+◌, ◌<◌, List, Option, Some, None, length, map, slice_get, slice_index_or}
use Rattle.dy_chains.specs.declared.rules.Rule.{Rule}
use Rattle.dy_chains.specs.declared.watchers.Watcher as code
use Rattle.dy_chains.specs.Lists.{Extends}
use Rattle.dy_chains.specs.Rules.{EachPremise}

-- A rule, by its number, that has this fact as a premise.
pub record Watcher : Type 0 where
  pub fact : ℕ
  pub rule : ℕ

abbrev pub watcher_of : code.Watcher → Watcher
watcher_of watcher = record { fact = watcher.fact; rule = watcher.rule }

-- Some watcher of the fact stands at this place.
abbrev pub IsOf : List Watcher → ℕ → ℕ → Type 0
IsOf watchers fact place = (rule : ℕ) × (slice_get watchers place ≡ Some (record { fact = fact; rule = rule }))

-- Before the bound this is the place of the last watcher of the fact, if it has one.
abbrev pub IsLastBefore : List Watcher → ℕ → ℕ → Option ℕ → Type 0
IsLastBefore watchers bound fact None = (place : ℕ) → place < bound → IsOf watchers fact place → ⊥
IsLastBefore watchers bound fact (Some last) =
    (last < bound) × IsOf watchers fact last
    × ((place : ℕ) → last < place → place < bound → IsOf watchers fact place → ⊥)

-- Each watcher knows the one before it of the same fact, and of each fact the newest is known.
pub record AreLinked (watchers : List code.Watcher) (newest : List (Option ℕ)) : Type 0 where
  pub before : (place : ℕ) (watcher : code.Watcher) → slice_get watchers place ≡ Some watcher
      → IsLastBefore (map watcher_of watchers) place watcher.fact watcher.before
  pub last : (fact : ℕ)
      → IsLastBefore (map watcher_of watchers) (length watchers) fact (slice_index_or newest fact None)

-- A watcher of the fact has the number of this rule.
abbrev pub IsListed : List Watcher → ℕ → ℕ → Type 0
IsListed watchers rule fact =
    (place : ℕ) × (slice_get watchers place ≡ Some (record { fact = fact; rule = rule }))

-- Each of the rules, which have the numbers from `first` on, is listed at its premises.
abbrev pub AreWatchedFrom : ℕ → List Watcher → List Rule → Type 0
AreWatchedFrom first watchers rules =
    (number : ℕ) (rule : Rule) → slice_get rules number ≡ Some rule
    → EachPremise (IsListed watchers (first + number)) rule

-- So many of the rules, which have the numbers from `first` on, were added at their premises.
pub record AreWatchedTo (end first : ℕ) (old new : List Watcher) (rules : List Rule) : Type 0 where
  pub extends : Extends old new
  pub watched : (number : ℕ) (rule : Rule) → number < end → slice_get rules number ≡ Some rule
      → EachPremise (IsListed new (first + number)) rule

abbrev pub AreWatched : List Watcher → List Rule → Type 0
AreWatched watchers rules =
    (number : ℕ) (rule : Rule) → slice_get rules number ≡ Some rule → EachPremise (IsListed watchers number) rule
