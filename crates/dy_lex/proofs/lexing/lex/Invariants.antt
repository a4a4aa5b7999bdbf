use Rattle.std.proofs.Common.{◌-◌, length, map}
use Rattle.dy_lex.specs.Tokens.{piece_of}
use Rattle.dy_lex.proofs.Reading.{Reads}
use Rattle.dy_lex.proofs.lexing.lex.Given as goal

abbrev pub invariant-loop-at : goal.invariant-loop-at
invariant-loop-at l = Reads l.source (map piece_of l.tokens.items) l.at l.line

abbrev pub decreases-loop-at : goal.decreases-loop-at
decreases-loop-at l = length l.source - l.at
