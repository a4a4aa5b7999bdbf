use Rattle.std.proofs.Common.{◌≡◌, map, take}
use Rattle.dy_syntax.specs.Meaning.{partner_of}
use Rattle.dy_know.proofs.copying.partners_copy.Given as goal

-- those so far are copied
abbrev pub invariant-loop-partner : goal.invariant-loop-partner
invariant-loop-partner l = map partner_of l.made ≡ map partner_of (take l.partner-index l.partners)
