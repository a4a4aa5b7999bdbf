use Rattle.std.proofs.Common.{◌≡◌, ◌<◌, drop}
use Rattle.dy_flat.specs.declared.indexing.TheConstants.{CLASSES}
use Rattle.dy_flat.specs.MirrorIndexes.{class_of, class_after}
use Rattle.dy_flat.proofs.indexing.class.Given as goal

abbrev pub invariant-loop-byte : goal.invariant-loop-byte
invariant-loop-byte l = record {
  same : class_after l.class (drop l.byte-index l.bytes) ≡ class_of l.bytes;
  few : l.class < CLASSES;
}
