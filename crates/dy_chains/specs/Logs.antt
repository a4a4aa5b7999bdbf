-- A log of the facts that follow, each after those that it follows from.
use Rattle.std.specs.Prelude.{◌≡◌, ℕ, ◌==◌, ◌<◌, List, Option, Some, map, slice_get}
use Rattle.std.specs.List.{position}
use Rattle.dy_chains.specs.declared.rules.Rule.{Rule}
use Rattle.dy_chains.specs.declared.logs.Step.{Step}
use Rattle.dy_chains.specs.Rules.{EachPremise}

abbrev pub facts_of : List Step → List ℕ
facts_of log = map (λ step. step.fact) log

-- the place of a fact in the log, if it has one
abbrev pub place_of : List Step → ℕ → Option ℕ
place_of log fact = position (λ other. other == fact) (facts_of log)

-- The fact stands in the log at this place.
abbrev pub IsAt : List Step → ℕ → ℕ → Type 0
IsAt log place fact = slice_get (facts_of log) place ≡ Some fact

abbrev pub IsLogged : List Step → ℕ → Type 0
IsLogged log fact = (place : ℕ) × IsAt log place fact

-- The fact stands in the log before this place.
abbrev pub IsLoggedBefore : List Step → ℕ → ℕ → Type 0
IsLoggedBefore log place fact = (earlier : ℕ) × (earlier < place) × IsAt log earlier fact

-- The rule of this step concludes its fact, from premises that stand before it.
pub record IsByRule (rules : List Rule) (log : List Step) (place : ℕ) (step : Step) : Type 0 where
  pub rule : Rule
  pub stands : slice_get rules step.rule ≡ Some rule
  pub concludes : rule.conclusion ≡ step.fact
  pub premises : EachPremise (IsLoggedBefore log place) rule

-- Each step is by a rule, and each fact stands in the log at most once.
pub record IsLog (rules : List Rule) (log : List Step) : Type 0 where
  pub by_rules : (place : ℕ) (step : Step) → slice_get log place ≡ Some step → IsByRule rules log place step
  pub once : (place other fact : ℕ) → IsAt log place fact → IsAt log other fact → place ≡ other

-- What a rule concludes from logged facts is logged.
abbrev pub IsComplete : List Rule → List Step → Type 0
IsComplete rules log =
    (number : ℕ) (rule : Rule) → slice_get rules number ≡ Some rule → EachPremise (IsLogged log) rule
    → IsLogged log rule.conclusion
