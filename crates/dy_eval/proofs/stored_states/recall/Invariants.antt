use Rattle.std.proofs.Common.{map}
use Rattle.std.specs.Prelude.{count_by}
use Rattle.dy_syntax.specs.Meaning.{pattern_of}
use Rattle.dy_eval.specs.NamesMeaning.{names_of}
use Rattle.dy_eval.proofs.Recalling.{Passed, is_left}
use Rattle.dy_eval.proofs.stored_states.recall.Given as goal

-- all that match come after what was looked at
abbrev pub invariant-loop-stored : goal.invariant-loop-stored
invariant-loop-stored g l = Passed (g.P.Past.trace l.past) (names_of l.names) l.tag (map pattern_of l.patterns) l.from

abbrev pub decreases-loop-stored : goal.decreases-loop-stored
decreases-loop-stored g l = count_by (is_left l.names.principal l.tag l.from) (g.P.Past.trace l.past)
