use Rattle.dy_types.proofs.Weaker.{identify_with-weaker}
use Rattle.dy_types.proofs.laws.weaker_parts_give_weaker_knowledge.Goals as goal

pub returns-clause-identify_with : goal.returns-clause-identify_with
returns-clause-identify_with c = identify_with-weaker
