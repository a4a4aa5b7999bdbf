-- What names of the code stand for.
use Rattle.dy_eval.specs.declared.names.Names as names
use Rattle.dy_eval.specs.Names.{Names}

abbrev pub names_of : names.Names → Names
names_of n = record { principal = n.principal; session = n.session; written = n.written.items }
