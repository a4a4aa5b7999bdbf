use Rattle.std.proofs.Common.{arith}
use Rattle.std.proofs.lemmas.Grind.{common_steps}
use Rattle.dy_syntax.specs.MirrorFaults.{note_part}
use Rattle.dy_syntax.proofs.Rows.{names_as_exprs}
use Rattle.dy_syntax.proofs.parts.statements.note_filled_by_names.Goals as goal

pub returns-in-Some : goal.returns-in-Some
unfolding note_part
returns-in-Some c = rw (names_as_exprs c.args.args.now) (grind (arith, common_steps))
