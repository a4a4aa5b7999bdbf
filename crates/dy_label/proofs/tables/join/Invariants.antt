use Rattle.std.proofs.Common.{◌≡◌, ℕ, ◌<◌, length, slice_index}
use Rattle.std.specs.Prelude.{bit_or}
use Rattle.dy_label.proofs.tables.join.Given as goal

abbrev pub invariant-loop-block : goal.invariant-loop-block
invariant-loop-block l = record {
  whole : length l.table ≡ 64;
  done : (k : ℕ) → k < l.block → slice_index l.table k ≡ bit_or (slice_index l.first k) (slice_index l.second k);
}
