use Rattle.std.proofs.Common.{◌≡◌, take}
use Rattle.dy_flat.proofs.places.copies.Given as goal

abbrev pub invariant-loop-one : goal.invariant-loop-one
invariant-loop-one g l = l.made.items ≡ take l.one-index l.kept
