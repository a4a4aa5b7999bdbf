use Rattle.dy_flat.proofs.WalkedTerms.{all_terms, ends, length-walk_of}
use Rattle.dy_flat.proofs.laws.steps_give_term.Goals as goal

pub returns-clause-terms : goal.returns-clause-terms
returns-clause-terms c = all_terms

pub returns-clause-last : goal.returns-clause-last
returns-clause-last c = ends

pub returns-clause-each : goal.returns-clause-each
returns-clause-each c = length-walk_of
