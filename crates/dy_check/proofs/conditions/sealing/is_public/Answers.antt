use Rattle.dy_label.specs.Labels.{Public}
use Rattle.dy_check.proofs.conditions.sealing.is_public.Goals as goal

pub returns : goal.returns
returns c = λ label h. c.implies.ensures Public label c.public_table.ensures h
