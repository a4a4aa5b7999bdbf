use Rattle.dy_traces.proofs.Recipes.{recipe_fine}
use Rattle.dy_traces.proofs.recipe_laws.a_recipe_gives_what_is_derived.Goals as goal

pub returns : goal.returns
returns c = recipe_fine c.sameness_is_equality.ensures.equal
