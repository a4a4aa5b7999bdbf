use Rattle.std.proofs.Common.{◌≡◌, map, drop}
use Rattle.std.specs.Str.{bytes_eq}
use Rattle.dy_types.specs.Facts.{first_of}
use Rattle.dy_types.proofs.facts.have_values.Given as goal

abbrev pub invariant-loop-i : goal.invariant-loop-i
invariant-loop-i l = bytes_eq (map (first_of l.first) (drop l.i l.variables)) (drop l.i l.values) ≡ bytes_eq (map (first_of l.first) l.variables) l.values
