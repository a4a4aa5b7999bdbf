use Rattle.dy_traces.proofs.Versions.{each_version_once, versions_are_few}
use Rattle.dy_traces.proofs.laws.versions_stand_once.Goals as goal

pub returns-clause-once : goal.returns-clause-once
returns-clause-once c = each_version_once

pub returns-clause-few : goal.returns-clause-few
returns-clause-few c = λ bytes file T principal session is_one. versions_are_few bytes file T is_one principal session
