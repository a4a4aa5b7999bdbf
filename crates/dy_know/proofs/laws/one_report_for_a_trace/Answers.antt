use Rattle.dy_know.proofs.OneReport.{one_known, one_breaches, one_count}
use Rattle.dy_know.proofs.laws.one_report_for_a_trace.Goals as goal

pub returns-clause-known : goal.returns-clause-known
returns-clause-known c = one_known

pub returns-clause-breaches : goal.returns-clause-breaches
returns-clause-breaches c = one_breaches

pub returns-clause-count : goal.returns-clause-count
returns-clause-count c = one_count
