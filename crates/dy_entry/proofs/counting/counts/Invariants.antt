use Rattle.std.proofs.Common.{◌≡◌, take}
use Rattle.dy_entry.specs.Summaries.{counts_in}
use Rattle.dy_entry.specs.Meaning.{entries_of, counts_of}
use Rattle.dy_entry.proofs.counting.counts.Given as goal

abbrev pub invariant-loop-entry : goal.invariant-loop-entry
invariant-loop-entry l = counts_of l.counts ≡ counts_in (entries_of (take l.entry-index l.entries))
