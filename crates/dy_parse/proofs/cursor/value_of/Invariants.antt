use Rattle.std.proofs.Common.{◌≡◌, ◌+◌, ◌*◌, ◌^◌, ◌≤◌, take}
use Rattle.dy_grammar.specs.Terminals as terminals
use Rattle.dy_parse.proofs.cursor.value_of.Given as goal

-- A digit adds at most 207, which is 9 * 23, as any byte does.
abbrev pub invariant-loop-digit : goal.invariant-loop-digit
invariant-loop-digit l = record {
  value : l.number ≡ terminals.number_of (take l.digit-index l.digits);
  small : l.number + 23 ≤ 23 * 10 ^ l.digit-index;
}
