use Rattle.dy_lex.proofs.OneReading.{spells_same, faulty_not_spelled, faults_same}
use Rattle.dy_lex.proofs.laws.one_reading.Goals as goal

pub returns-clause-same : goal.returns-clause-same
returns-clause-same c = λ source a b in_a in_b. spells_same a b 0 1 source in_a in_b

pub returns-clause-none : goal.returns-clause-none
returns-clause-none c = λ source line tokens faulty spells. faulty_not_spelled faulty.0 tokens 0 1 source line faulty.1 spells

pub returns-clause-first : goal.returns-clause-first
returns-clause-first c = λ source k l in_a in_b. faults_same in_a.0 in_b.0 0 1 source k l in_a.1 in_b.1
