use Rattle.dy_know.proofs.Security.{secure, nothing_breached}
use Rattle.dy_know.proofs.laws.secure_where_nothing_is_breached.Goals as goal

pub returns-clause-secure : goal.returns-clause-secure
returns-clause-secure c = secure

pub returns-clause-breached : goal.returns-clause-breached
returns-clause-breached c = nothing_breached
