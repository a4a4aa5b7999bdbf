use Rattle.std.proofs.Common.{◌≡◌, ℕ, ◌<◌, ◌/◌, true}
use Rattle.dy_label.specs.Tables.{is_lawful, value_at}
use Rattle.dy_label.proofs.tables.within.Given as goal

abbrev pub invariant-loop-block : goal.invariant-loop-block
invariant-loop-block l = (row : ℕ) → row / 64 < l.block → is_lawful row ≡ true → value_at l.first row ≡ true → value_at l.second row ≡ true
