use Rattle.dy_chains.specs.MirrorWatchers.{AreWatchedTo}
use Rattle.dy_chains.proofs.watchers.Watchers.add_rules.Given as goal

abbrev pub invariant-loop-place : goal.invariant-loop-place
invariant-loop-place l = AreWatchedTo l.place l.first l.initial.self l.self l.rules
