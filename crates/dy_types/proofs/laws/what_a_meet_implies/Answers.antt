use Rattle.dy_types.proofs.Weaker.{meet_implies}
use Rattle.dy_types.proofs.laws.what_a_meet_implies.Goals as goal

pub returns : goal.returns
returns c = meet_implies
