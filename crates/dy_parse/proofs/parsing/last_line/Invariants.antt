use Rattle.std.proofs.Common.{◌≡◌, ◌+◌, ◌≤◌, take}
use Rattle.dy_lex.specs.Tokens.{newlines}
use Rattle.dy_parse.proofs.parsing.last_line.Given as goal

abbrev pub invariant-loop-byte : goal.invariant-loop-byte
invariant-loop-byte l = record {
  value : l.line ≡ 1 + newlines (take l.byte-index l.source);
  small : l.line ≤ 1 + l.byte-index;
}
