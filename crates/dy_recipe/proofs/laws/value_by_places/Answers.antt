use Rattle.dy_recipe.proofs.ValuesByPlaces.{places, value_found}
use Rattle.dy_recipe.proofs.laws.value_by_places.Goals as goal

pub returns-clause-places : goal.returns-clause-places
returns-clause-places c = places

pub returns-clause-value : goal.returns-clause-value
returns-clause-value c = value_found
