use Rattle.dy_term.proofs.Samenesses.{is_same-equal, is_same-refl}
use Rattle.dy_term.proofs.laws.sameness_is_equality.Goals as goal

pub returns-clause-equal : goal.returns-clause-equal
returns-clause-equal c = is_same-equal

pub returns-clause-same : goal.returns-clause-same
returns-clause-same c = is_same-refl
