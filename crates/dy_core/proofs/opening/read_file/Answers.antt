use Rattle.std.proofs.Common.{◌∙◌, ap, sym, Err}
use Rattle.dy_core.proofs.Faults.{parse_fault, read_protocol}
use Rattle.dy_core.proofs.opening.read_file.Goals as goal

pub returns-in-Ok-clause-file : goal.returns-in-Ok-clause-file
returns-in-Ok-clause-file c = read_protocol c.args.bytes.now c.in-Ok.file c.check_rules.result c.in-Ok.ensures.file c.check_rules.ensures.file

pub returns-in-Err-clause-bad : goal.returns-in-Err-clause-bad
returns-in-Err-clause-bad c = λ line same.
    parse_fault c.args.bytes.now c.in-Err.error c.in-Err.ensures.bad c.in-Err.ensures.limit line (ap Err (sym c.of_parse_error.ensures) ∙ same)
