use Rattle.std.proofs.Common.{◌≡◌, ◌+◌, ◌*◌, ◌<◌, ◌≤◌, map, drop}
use Rattle.dy_flat.specs.MirrorSpans.{span}
use Rattle.dy_flat.specs.Meaning.{arity}
use Rattle.dy_flat.proofs.parts.first_len.Given as goal

abbrev pub invariant-loop-at : goal.invariant-loop-at
invariant-loop-at l = record {
  rest : span 1 (map arity l.run) ≡ l.at + span l.due (map arity (drop l.at l.run));
  some : 0 < l.due;
  few : l.due ≤ 2 * l.at + 1;
}
