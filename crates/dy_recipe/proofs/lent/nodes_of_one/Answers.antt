use Rattle.dy_recipe.proofs.NodeCounts.{small_one}
use Rattle.dy_recipe.proofs.lent.nodes_of_one.Goals as goal

pub returns : goal.returns
returns c = small_one _ _ c.nodes.ensures
