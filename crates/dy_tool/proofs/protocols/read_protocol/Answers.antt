use Rattle.dy_tool.proofs.protocols.read_protocol.Goals as goal

pub returns-in-Err-BadLine : goal.returns-in-Err-BadLine
returns-in-Err-BadLine c = rw (← c.in-Err-BadLine.line-is) at (c.in-Err-BadLine.ensures.bad c.in-Err-BadLine.line (cc))
