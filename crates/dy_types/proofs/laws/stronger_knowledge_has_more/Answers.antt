use Rattle.dy_types.proofs.Weaker.{Fits-stronger}
use Rattle.dy_types.proofs.laws.stronger_knowledge_has_more.Goals as goal

pub returns-clause-fits : goal.returns-clause-fits
returns-clause-fits c = Fits-stronger

pub returns-clause-uses : goal.returns-clause-uses
returns-clause-uses c = λ stronger weaker usage h. h.uses usage

pub returns-clause-pks : goal.returns-clause-pks
returns-clause-pks c = λ stronger weaker label usage h. h.pks label usage

pub returns-clause-vks : goal.returns-clause-vks
returns-clause-vks c = λ stronger weaker label usage h. h.vks label usage
