use Rattle.std.proofs.Common.{◌≡◌, take}
use Rattle.dy_entry.specs.LookUps.{newest}
use Rattle.dy_entry.specs.Meaning.{entries_of}
use Rattle.dy_entry.proofs.look_ups.newest.Given as goal

abbrev pub invariant-loop-entry : goal.invariant-loop-entry
invariant-loop-entry l = l.newest ≡ newest (entries_of (take l.entry-index l.entries)) l.principal l.session
