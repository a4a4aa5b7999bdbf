use Rattle.dy_term.proofs.TermEnds.{text_ends, one_place, one_start}
use Rattle.dy_term.proofs.laws.term_ends.Goals as goal

pub returns-clause-ends : goal.returns-clause-ends
returns-clause-ends c = text_ends

pub returns-clause-place : goal.returns-clause-place
returns-clause-place c = one_place

pub returns-clause-term : goal.returns-clause-term
returns-clause-term c = one_start
