use Rattle.std.proofs.Common.{◌≡◌, map, drop, ◌++◌}
use Rattle.dy_flat.specs.Views.{tree_of}
use Rattle.dy_syntax.specs.Meaning.{pattern_of}
use Rattle.dy_eval.specs.Patterns.{written_by}
use Rattle.dy_eval.proofs.patterns.written_by.Given as goal

-- what those so far write, and then what the others do
abbrev pub invariant-loop-at : goal.invariant-loop-at
invariant-loop-at l =
    l.made.items ++ written_by (map pattern_of (drop l.at l.patterns)) (map tree_of (drop l.at l.fields)) ≡ written_by (map pattern_of l.patterns) (map tree_of l.fields)
