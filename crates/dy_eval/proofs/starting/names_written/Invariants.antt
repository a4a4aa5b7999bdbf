use Rattle.std.proofs.Common.{◌≡◌, map, drop, ◌++◌}
use Rattle.dy_syntax.specs.Meaning.{id_of}
use Rattle.dy_eval.specs.Starts.{names_written}
use Rattle.dy_eval.proofs.starting.names_written.Given as goal

-- those so far, and then the others
abbrev pub invariant-loop-at : goal.invariant-loop-at
invariant-loop-at l =
    l.made.items ++ names_written (map id_of (drop l.at l.args)) (drop l.at l.names) ≡ names_written (map id_of l.args) l.names
