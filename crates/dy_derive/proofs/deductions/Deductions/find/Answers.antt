use Rattle.std.proofs.Common.{sym}
use Rattle.dy_derive.proofs.FoundNodes.{found_at, missing_at}
use Rattle.dy_derive.proofs.deductions.Deductions.find.Goals as goal

pub returns-in-Some-clause-found : goal.returns-in-Some-clause-found
returns-in-Some-clause-found c = found_at c.args.self.now.nodes.keys c.args.node.now c.in-Some.number c.in-Some.ensures.index

pub returns-in-None-clause-missing : goal.returns-in-None-clause-missing
returns-in-None-clause-missing c = missing_at c.args.self.now.nodes.keys c.args.node.now (sym c.in-None.ensures.found)
