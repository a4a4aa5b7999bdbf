use Rattle.dy_tool.specs.Due.{quiet_commands}
use Rattle.dy_tool.proofs.commands.quiet.Goals as goal

pub returns : goal.returns
returns g c = record { carried = c.carry_out.ensures.carried quiet_commands c.quiet_command.ensures }
