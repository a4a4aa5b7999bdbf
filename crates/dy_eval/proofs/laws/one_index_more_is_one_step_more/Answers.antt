use Rattle.std.proofs.Common.{refl}
use Rattle.dy_eval.proofs.Indices.{one_more}
use Rattle.dy_eval.proofs.laws.one_index_more_is_one_step_more.Goals as goal

pub returns-clause-first : goal.returns-clause-first
returns-clause-first c = λ X left. refl

pub returns-clause-more : goal.returns-clause-more
returns-clause-more c = one_more
