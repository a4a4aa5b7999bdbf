use Rattle.std.proofs.Common.{◌≡◌, ℕ, ◌<◌, length, slice_index, ◌+◌, ◌*◌}
use Rattle.dy_label.specs.Tables.{is_set}
use Rattle.dy_label.proofs.tables.table_of_atom.Given as goal

abbrev pub invariant-loop-block : goal.invariant-loop-block
invariant-loop-block l = record {
  whole : length l.table ≡ 64;
  done : (k : ℕ) → k < l.block → (place : ℕ) → place < 64 → is_set (slice_index l.table k) place ≡ is_set (k * 64 + place) l.bit;
}
