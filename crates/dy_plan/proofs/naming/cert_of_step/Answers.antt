use Rattle.dy_entry.specs.LookUps.{is_cert_of}
use Rattle.dy_entry.specs.Meaning.{entries_of}
use Rattle.dy_plan.proofs.Named.{nth_answer}
use Rattle.dy_plan.proofs.naming.cert_of_step.Goals as goal

pub returns-in-Start : goal.returns-in-Start
returns-in-Start c = rw c.in-Start.is (nth_answer (is_cert_of c.args.index) (entries_of c.args.entries.now) c.cert_of.result c.args.number c.cert_of.ensures)
