use Rattle.std.proofs.Common.{vec_len, ◌-◌, ◌+◌, ◌≡◌, ◌≤◌}
use Rattle.std.specs.Io.KnownBytes.{Consumes}
use Rattle.dy_io.proofs.reading.read_all.Given as goal

-- the bytes so far came, no more than the limit, and nothing has gone wrong
abbrev pub invariant-loop-bytes : goal.invariant-loop-bytes
invariant-loop-bytes g l =
    let source = g.S.Source in
    (vec_len l.bytes ≤ l.limit) × Consumes (source.left l.fn.source) (source.left l.source) l.bytes.items × (source.faults l.source ≡ source.faults l.fn.source)

abbrev pub decreases-loop-bytes : goal.decreases-loop-bytes
decreases-loop-bytes g l = l.limit + 1 - vec_len l.bytes
