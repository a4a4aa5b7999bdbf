use Rattle.dy_parse.proofs.LimitLaws.Alike as alike
use Rattle.dy_parse.proofs.laws.same_limits.Goals as goal

pub returns : goal.returns
returns c = alike.same_limits
