use Rattle.std.proofs.Common.{◌+◌}
use Rattle.dy_turn.proofs.turns.Turn.split.Given as goal

abbrev pub ghosts-cut : goal.ghosts-cut
ghosts-cut g a = record { amount = a.room + 1 }
