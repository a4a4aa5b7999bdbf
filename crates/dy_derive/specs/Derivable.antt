-- Whether a term is derived, told by a recipe.
use Rattle.std.specs.Prelude.{◌≡◌, List, Option, Some, None}
use Rattle.dy_term.specs.Terms.{Term}
use Rattle.dy_entry.specs.Entries.{Entry}
use Rattle.dy_entry.specs.Attacker.{Derives}
use Rattle.dy_recipe.specs.declared.moves.Recipe.{Recipe}
use Rattle.dy_recipe.specs.Meaning.{recipe_of}
use Rattle.dy_recipe.specs.Values.{recipe_value}
use Rattle.dy_traces.specs.Given.{given_by}

-- A recipe gives the term over the trace. There is none exactly where the term is not derived from it.
abbrev pub DecidesDerivable : List Entry → Term → Option Recipe → Type 0
DecidesDerivable T term (Some recipe) = recipe_value (given_by T) (recipe_of recipe) ≡ Some term
DecidesDerivable T term None = Derives T term → ⊥
