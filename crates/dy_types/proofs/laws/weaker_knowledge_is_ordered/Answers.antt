use Rattle.dy_types.proofs.Weaker.{IsWeaker-trans}
use Rattle.dy_types.proofs.laws.weaker_knowledge_is_ordered.Goals as goal

pub returns-clause-onward : goal.returns-clause-onward
returns-clause-onward c = IsWeaker-trans
