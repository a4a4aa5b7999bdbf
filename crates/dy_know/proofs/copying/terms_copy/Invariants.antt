use Rattle.std.proofs.Common.{◌≡◌, take}
use Rattle.dy_know.proofs.copying.terms_copy.Given as goal

-- those so far are copied
abbrev pub invariant-loop-term : goal.invariant-loop-term
invariant-loop-term l = l.made ≡ take l.term-index l.terms
