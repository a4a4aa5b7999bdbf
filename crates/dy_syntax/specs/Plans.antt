-- Plans as plain data.
use Rattle.std.specs.Prelude.{ℕ, List, Option}
use Rattle.dy_syntax.specs.Names.{Id}
use Rattle.dy_syntax.specs.Recipes.{Numbered, RecipeText}

-- the step whose session a step goes on
pub record OnStep : Type 0 where
  pub line : ℕ
  pub step : Id

-- what a step does
pub data Action : Type 0 where
  Start : (principal handler : Id) (args : List Id) (on : Option OnStep) (msg : Option Numbered) → Action
  Corrupt : (principal session : Id) (version : ℕ) → Action
  Forge : Action
  Inject : (recipe : RecipeText) → Action

-- a step with its name
pub record Step : Type 0 where
  pub line : ℕ
  pub name : Id
  pub action : Action

-- the steps of a round
pub record Round : Type 0 where
  pub line : ℕ
  pub steps : List Step

-- what a run does, round by round
pub record Plan : Type 0 where
  pub rounds : List Round
