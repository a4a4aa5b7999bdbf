use Rattle.std.proofs.Common.{take}
use Rattle.dy_types.specs.Facts.{guards_of}
use Rattle.dy_types.specs.Meaning.{facts_of}
use Rattle.dy_types.specs.MirrorMeets.{MeetIn}
use Rattle.dy_types.proofs.facts.guards_table.Given as goal

abbrev pub invariant-loop-fact : goal.invariant-loop-fact
invariant-loop-fact l = MeetIn (guards_of l.first (facts_of (take l.fact-index l.facts)) l.event l.values) l.met
