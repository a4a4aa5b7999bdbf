use Rattle.dy_recipe.proofs.NodeCounts.{small_two}
use Rattle.dy_recipe.proofs.lent.nodes_of_two.Goals as goal

pub returns : goal.returns
returns c = small_two _ _ _ _ c.nodes.ensures c.nodes-2.ensures
