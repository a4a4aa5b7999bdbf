use Rattle.std.proofs.Common.{◌≡◌, ◌≤◌, map, drop, nat_le}
use Rattle.std.specs.Prelude.{sum_by}
use Rattle.dy_term.specs.Terms.{size}
use Rattle.dy_flat.specs.Views.{tree_of}
use Rattle.dy_eval.specs.Values.{are_small}
use Rattle.dy_eval.proofs.values.are_small.Given as goal

-- there is room for all exactly where the others have room in what is left
abbrev pub invariant-loop-term : goal.invariant-loop-term
invariant-loop-term l =
    (nat_le (sum_by size (map tree_of (drop l.term-index l.terms))) l.room ≡ are_small (map tree_of l.terms)) × (l.room ≤ 1024)
