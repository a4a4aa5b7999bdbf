use Rattle.std.proofs.Common.{◌≡◌, map, take}
use Rattle.dy_flat.specs.Views.{tree_of}
use Rattle.dy_eval.proofs.puts.copies.Given as goal

-- those so far are copied
abbrev pub invariant-loop-term : goal.invariant-loop-term
invariant-loop-term l = l.made ≡ map tree_of (take l.term-index l.terms)
