use Rattle.std.proofs.Common.{◌≡◌, map, take}
use Rattle.dy_flat.specs.Views.{tree_of}
use Rattle.dy_eval.specs.ValueMeaning.{term_of}
use Rattle.dy_eval.proofs.expressions.views.Given as goal

-- those so far are lent
abbrev pub invariant-loop-value : goal.invariant-loop-value
invariant-loop-value l = map tree_of l.made.items ≡ map term_of (take l.value-index l.values)
