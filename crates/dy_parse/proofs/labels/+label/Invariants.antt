use Rattle.std.proofs.Common.{◌+◌, ◌-◌, ◌*◌}
use Rattle.dy_grammar.specs.declared.limits.TheConstants.{TOO_DEEP}
use Rattle.dy_parse.proofs.labels.+label.Given as goal

abbrev pub decreases-inner : goal.decreases-inner
decreases-inner l = 3 * (TOO_DEEP - l.level) + 2

abbrev pub decreases-built_label : goal.decreases-built_label
decreases-built_label l = 3 * (TOO_DEEP - l.level) + 1

abbrev pub decreases-join : goal.decreases-join
decreases-join l = 3 * (TOO_DEEP - l.level)

abbrev pub decreases-meet : goal.decreases-meet
decreases-meet l = 3 * (TOO_DEEP - l.level)
