use Rattle.std.proofs.Common.{◌≡◌, ◌+◌, map, drop}
use Rattle.dy_eval.specs.Runs.{runs}
use Rattle.dy_eval.specs.NamesMeaning.{names_of}
use Rattle.dy_eval.specs.LineMeaning.{line_of}
use Rattle.dy_eval.specs.TakenMeaning.{KeepsWritten}
use Rattle.dy_eval.proofs.steps.take_lines.Given as goal

-- what the lines that are left come to is what all come to
abbrev pub invariant-loop-at : goal.invariant-loop-at
invariant-loop-at g l =
    (runs (g.P.Past.trace l.past) (names_of l.names) (l.first + l.at) (drop l.at (map line_of l.lines))
    ≡ runs (g.P.Past.trace l.past) (names_of l.initial.names) (l.first + l.start) (drop l.start (map line_of l.lines)))
    × KeepsWritten l.initial.names l.names
