-- What a lent state stands for.
use Rattle.dy_eval.specs.declared.past.Stored as code
use Rattle.dy_eval.specs.Past.{Stored}

abbrev pub stored_of : code.Stored → Stored
stored_of s = record { tag = s.tag.now; session = s.session; version = s.version; fields = s.fields.now }
