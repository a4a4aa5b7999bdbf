use Rattle.dy_parse.proofs.Depth.TreeDepths.{file_is_shallow}
use Rattle.dy_parse.proofs.laws.trees_are_shallow.Goals as goal

pub returns : goal.returns
returns c = file_is_shallow
