use Rattle.dy_entry.specs.LookUps.{corruptions}
use Rattle.dy_entry.proofs.trace_laws.covered_versions_are_open.Goals as goal

pub returns : goal.returns
returns c = λ T principal session version. c.versions_are_covered_where_they_are_open.ensures (corruptions T) principal session version
