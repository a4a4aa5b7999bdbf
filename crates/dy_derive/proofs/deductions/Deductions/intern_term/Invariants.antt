use Rattle.dy_flat.specs.Views.{tree_of}
use Rattle.dy_flat.specs.WalkMeaning.{steps_left}
use Rattle.dy_derive.proofs.StepsInterned.{IsWalked}
use Rattle.dy_derive.proofs.deductions.Deductions.intern_term.Given as goal

abbrev pub invariant-loop-step : goal.invariant-loop-step
invariant-loop-step l = IsWalked l.initial.self l.self l.numbers.items (steps_left l.step-iterator) (tree_of l.term)
