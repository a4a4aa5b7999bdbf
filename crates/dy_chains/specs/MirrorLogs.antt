-- How the place of each fact is kept beside the log.
use Rattle.std.specs.Prelude.{◌≡◌, ℕ, ◌+◌, ◌≤◌, List, [], ◌∷◌, Option, Some, None, length, slice_get}
use Rattle.dy_chains.specs.declared.rules.Rule.{Rule}
use Rattle.dy_chains.specs.declared.logs.Step.{Step}
use Rattle.dy_chains.specs.Lists.{Extends}
use Rattle.dy_chains.specs.Rules.{EachPremise}
use Rattle.dy_chains.specs.Logs.{place_of, IsLogged, IsLoggedBefore, IsLog}

-- A log of some of the facts below `facts`.
pub record Log : Type 0 where
  pub facts : ℕ
  pub steps : List Step

-- how many have no place
abbrev pub missing : List (Option ℕ) → ℕ
missing [] = 0
missing (None ∷ places) = missing places + 1
missing (Some place ∷ places) = missing places

-- The places are those of the facts in the log, which are all below their number.
pub record HasPlaces (log : List Step) (places : List (Option ℕ)) : Type 0 where
  pub placed : (fact : ℕ) (place : Option ℕ) → slice_get places fact ≡ Some place → place_of log fact ≡ place
  pub none : (fact : ℕ) → length places ≤ fact → place_of log fact ≡ None
  pub each : length log + missing places ≡ length places

-- The log gained steps at its end, and each of them is by a rule.
pub record Gains (rules : List Rule) (old new : Log) : Type 0 where
  pub facts : new.facts ≡ old.facts
  pub steps : Extends old.steps new.steps
  pub by_rules : IsLog rules old.steps → IsLog rules new.steps

-- If the premises of the rule of this number stand before the bound, its conclusion is logged.
abbrev pub IsTried : List Rule → List Step → ℕ → ℕ → Type 0
IsTried rules log bound number =
    (rule : Rule) → slice_get rules number ≡ Some rule → EachPremise (IsLoggedBefore log bound) rule
    → IsLogged log rule.conclusion

-- What rules conclude from facts that stand before the bound is logged.
abbrev pub IsClosed : List Rule → List Step → ℕ → Type 0
IsClosed rules log bound = (number : ℕ) → IsTried rules log bound number
