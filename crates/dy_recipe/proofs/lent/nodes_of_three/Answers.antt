use Rattle.dy_recipe.proofs.NodeCounts.{small_three}
use Rattle.dy_recipe.proofs.lent.nodes_of_three.Goals as goal

pub returns : goal.returns
returns c = small_three _ _ _ _ _ _ c.nodes.ensures c.nodes-2.ensures c.nodes-3.ensures
