use Rattle.dy_turn.proofs.turns.Turn.mark.Given as goal

abbrev pub ghosts-append : goal.ghosts-append
ghosts-append g a = record { log = g.T.Counted.history a.value.now }
