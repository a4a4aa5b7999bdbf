use Rattle.dy_sound.proofs.AttackerSteps.{good_with_corrupt, good_with_forge, good_with_skip, good_with_inject, good_with_end}
use Rattle.dy_sound.proofs.laws.the_attacker_keeps_a_trace_good.Goals as goal

pub returns-clause-corrupt : goal.returns-clause-corrupt
returns-clause-corrupt c = λ decls T step corruption good. good_with_corrupt c.laws_below.ensures decls T good step corruption

pub returns-clause-forge : goal.returns-clause-forge
returns-clause-forge c = λ decls T step good. good_with_forge c.laws_below.ensures decls T good step

pub returns-clause-skip : goal.returns-clause-skip
returns-clause-skip c = λ decls T step good. good_with_skip c.laws_below.ensures decls T good step

pub returns-clause-inject : goal.returns-clause-inject
returns-clause-inject c = λ decls T step value good may. good_with_inject c.laws_below.ensures decls T good step value may.derived

pub returns-clause-end_ : goal.returns-clause-end_
returns-clause-end_ c = λ decls T instance outcome good. good_with_end c.laws_below.ensures decls T good instance outcome
