use Rattle.dy_traces.proofs.SmallValues.{small_values}
use Rattle.dy_traces.proofs.laws.values_are_small.Goals as goal

pub returns : goal.returns
returns c = λ bytes file T i e is_one at. small_values bytes file T is_one i e at
