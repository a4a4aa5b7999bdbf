use Rattle.std.proofs.Common.{refl, sym, ◌∙◌}
use Rattle.dy_term.proofs.ReadTerms.{one_term}
use Rattle.dy_term.proofs.laws.one_term.Goals as goal

pub returns-clause-text : goal.returns-clause-text
returns-clause-text c = λ term a b of_a of_b. of_a.spelled ∙ sym of_b.spelled

pub returns-clause-term : goal.returns-clause-term
returns-clause-term c = one_term

pub returns-clause-every : goal.returns-clause-every
returns-clause-every c = λ term made. record { made = made; spelled = refl }
