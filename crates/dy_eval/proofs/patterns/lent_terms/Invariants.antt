use Rattle.std.proofs.Common.{◌≡◌, map, take}
use Rattle.dy_flat.specs.Views.{tree_of}
use Rattle.dy_eval.proofs.patterns.lent_terms.Given as goal

-- those so far are lent
abbrev pub invariant-loop-term : goal.invariant-loop-term
invariant-loop-term l = map tree_of l.made.items ≡ take l.term-index l.terms
