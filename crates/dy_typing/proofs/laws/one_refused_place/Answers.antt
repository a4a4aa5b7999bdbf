use Rattle.dy_typing.proofs.Places.{one_place, untyped}
use Rattle.dy_typing.proofs.laws.one_refused_place.Goals as goal

pub returns-clause-place : goal.returns-clause-place
returns-clause-place c = one_place

pub returns-clause-untyped : goal.returns-clause-untyped
returns-clause-untyped c = untyped
