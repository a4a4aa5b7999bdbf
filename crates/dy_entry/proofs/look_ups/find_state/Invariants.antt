use Rattle.std.proofs.Common.{take}
use Rattle.dy_entry.specs.Meaning.{entries_of}
use Rattle.dy_entry.proofs.BestCandidates.{Stands}
use Rattle.dy_entry.proofs.look_ups.find_state.Given as goal

abbrev pub invariant-loop-index : goal.invariant-loop-index
invariant-loop-index l = Stands (entries_of (take l.index l.entries)) l.principal l.tag l.from l.found
