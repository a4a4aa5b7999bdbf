use Rattle.std.proofs.Common.{◌≡◌, ◌<◌, take}
use Rattle.std.specs.List.{count_by}
use Rattle.dy_entry.specs.Meaning.{entry_of}
use Rattle.dy_entry.specs.MirrorLookUps.{is_output}
use Rattle.dy_entry.proofs.look_ups.nth_output.Given as goal

abbrev pub invariant-loop-index : goal.invariant-loop-index
invariant-loop-index l = record {
  counted : l.seen ≡ count_by (λ entry. is_output l.output l.instance (entry_of entry)) (take l.index l.entries);
  before : l.seen < l.number;
}
