use Rattle.dy_sound.proofs.KnownExpressions.{known_expr_holds, known_exprs_hold}
use Rattle.dy_sound.proofs.laws_of_expressions.values_of_expressions_are_sound.Goals as goal

pub returns-clause-one : goal.returns-clause-one
returns-clause-one c = known_expr_holds c.laws_below.ensures

pub returns-clause-several : goal.returns-clause-several
returns-clause-several c = known_exprs_hold c.laws_below.ensures
