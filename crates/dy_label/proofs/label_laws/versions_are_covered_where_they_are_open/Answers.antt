use Rattle.dy_label.proofs.LabelsOpen.{is_covered_by-version}
use Rattle.dy_label.proofs.label_laws.versions_are_covered_where_they_are_open.Goals as goal

pub returns : goal.returns
returns c = is_covered_by-version
