use Rattle.std.proofs.Common.{length, take, ◌-◌, ◌≡◌, ◌≤◌}
use Rattle.std.specs.Io.KnownBytes.{Appends}
use Rattle.dy_io.proofs.writing.write_all.Given as goal

-- what is done was added, and nothing has gone wrong
abbrev pub invariant-loop-done : goal.invariant-loop-done
invariant-loop-done g l =
    let sink = g.K.Sink in
    (l.done ≤ length l.bytes) × Appends (sink.held l.fn.sink) (sink.held l.sink) (take l.done l.bytes) × (sink.faults l.sink ≡ sink.faults l.fn.sink)

abbrev pub decreases-loop-done : goal.decreases-loop-done
decreases-loop-done g l = length l.bytes - l.done
