use Rattle.std.proofs.Common.{◌≡◌, map, take}
use Rattle.dy_label.specs.LabelsMeaning.{place_of_corruption}
use Rattle.dy_entry.specs.LookUps.{corruptions}
use Rattle.dy_entry.specs.Meaning.{entries_of}
use Rattle.dy_entry.proofs.look_ups.corruptions.Given as goal

abbrev pub invariant-loop-entry : goal.invariant-loop-entry
invariant-loop-entry l = map place_of_corruption l.found.items ≡ corruptions (entries_of (take l.entry-index l.entries))
