use Rattle.std.proofs.Common.{◌++◌}
use Rattle.std.proofs.lemmas.List.Elements.{Contains-append_left}
use Rattle.dy_label.proofs.LabelsOpen.{is_open_rises}
use Rattle.dy_label.proofs.label_laws.more_corruptions_close_no_label.Goals as goal

pub returns-clause-among : goal.returns-clause-among
returns-clause-among c = is_open_rises

pub returns-clause-appended : goal.returns-clause-appended
returns-clause-appended c = λ some more label. is_open_rises some (some ++ more) label (Contains-append_left some more)
