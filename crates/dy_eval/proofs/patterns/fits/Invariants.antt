use Rattle.std.proofs.Common.{◌≡◌, map, drop}
use Rattle.dy_flat.specs.Views.{tree_of}
use Rattle.dy_syntax.specs.Meaning.{pattern_of}
use Rattle.dy_eval.specs.Patterns.{fits}
use Rattle.dy_eval.specs.NamesMeaning.{names_of}
use Rattle.dy_eval.proofs.patterns.fits.Given as goal

-- those so far fit
abbrev pub invariant-loop-at : goal.invariant-loop-at
invariant-loop-at l =
    fits (names_of l.names) (map pattern_of (drop l.at l.patterns)) (map tree_of (drop l.at l.fields)) ≡ fits (names_of l.names) (map pattern_of l.patterns) (map tree_of l.fields)
