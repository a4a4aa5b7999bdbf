use Rattle.dy_tool.specs.Due.{tool_commands}
use Rattle.dy_tool.proofs.commands.tool.Goals as goal

pub returns : goal.returns
returns g c = record { carried = c.carry_out.ensures.carried tool_commands c.tool_command.ensures }
