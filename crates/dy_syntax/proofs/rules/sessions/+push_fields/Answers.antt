use Rattle.dy_syntax.proofs.Rows.{fields_in_row_listed}
use Rattle.dy_syntax.proofs.rules.sessions.+push_fields.Goals as goal

pub push_fields-returns-in-Tuple : goal.push_fields-returns-in-Tuple
push_fields-returns-in-Tuple t c = rw (c.in-Tuple.is, fields_in_row_listed c.in-Tuple.args) c.push_all_fields.ensures
