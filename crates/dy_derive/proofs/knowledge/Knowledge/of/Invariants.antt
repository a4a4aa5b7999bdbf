use Rattle.std.proofs.Common.{take}
use Rattle.dy_entry.specs.Meaning.{entries_of}
use Rattle.dy_derive.specs.MirrorKnowledge.{Stands}
use Rattle.dy_derive.proofs.knowledge.Knowledge.of.Given as goal

abbrev pub invariant-loop-entry : goal.invariant-loop-entry
invariant-loop-entry l = Stands l.knowledge (entries_of (take l.entry-index l.entries))
