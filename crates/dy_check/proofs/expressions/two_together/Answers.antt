use Rattle.std.proofs.Common.{[], ◌∷◌}
use Rattle.dy_check.proofs.expressions.two_together.Goals as goal

pub returns : goal.returns
returns c = λ value other h k. c.with_part-2.ensures (value ∷ []) other (c.with_part.ensures [] value c.plain.ensures h) k
