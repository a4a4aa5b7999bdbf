use Rattle.std.proofs.Common.{◌≡◌, map, take}
use Rattle.dy_syntax.proofs.sameness.same_parts.Given as goal

-- those so far are the same
abbrev pub invariant-loop-i : goal.invariant-loop-i
invariant-loop-i g l =
    map g.P.Part.bare (map g.P.Part.plain (take l.i l.parts)) ≡ map g.P.Part.bare (map g.P.Part.plain (take l.i l.others))
