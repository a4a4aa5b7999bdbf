use Rattle.std.proofs.Common.{◌≡◌, map, take}
use Rattle.dy_syntax.specs.Meaning.{pattern_of}
use Rattle.dy_eval.proofs.copying.patterns_copy.Given as goal

-- those so far are copied
abbrev pub invariant-loop-pattern : goal.invariant-loop-pattern
invariant-loop-pattern l = map pattern_of l.made ≡ map pattern_of (take l.pattern-index l.patterns)
