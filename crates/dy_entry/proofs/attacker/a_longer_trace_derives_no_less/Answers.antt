use Rattle.dy_entry.proofs.Derivations.{derives_still}
use Rattle.dy_entry.proofs.attacker.a_longer_trace_derives_no_less.Goals as goal

pub returns : goal.returns
returns c = derives_still
