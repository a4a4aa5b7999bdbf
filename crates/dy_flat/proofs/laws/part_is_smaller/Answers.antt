use Rattle.dy_flat.proofs.PartSizes.{part_smaller}
use Rattle.dy_flat.proofs.laws.part_is_smaller.Goals as goal

pub returns : goal.returns
returns c = part_smaller
