use Rattle.dy_grammar.proofs.FileFaults.{file_or_fault, no_file_and_fault, one_line}
use Rattle.dy_grammar.proofs.laws.one_fault.Goals as goal

pub returns-clause-some : goal.returns-clause-some
returns-clause-some c = file_or_fault

pub returns-clause-none : goal.returns-clause-none
returns-clause-none c = no_file_and_fault

pub returns-clause-one : goal.returns-clause-one
returns-clause-one c = one_line
