use Rattle.dy_typing.proofs.Numbering.{start_of-numbered, after-numbered}
use Rattle.dy_typing.proofs.laws.variables_stay_well_numbered.Goals as goal

pub returns : goal.returns
returns c = record { start = start_of-numbered; onward = after-numbered }
