use Rattle.std.proofs.Common.{◌≡◌, ◌≤◌, take, Some}
use Rattle.dy_term.specs.MirrorSteps.{run, start}
use Rattle.dy_term.specs.MirrorReader.{nodes_of, state_of}
use Rattle.dy_term.proofs.term_reading.read_leading_term.Given as goal

abbrev pub invariant-loop-at : goal.invariant-loop-at
invariant-loop-at l = (nodes_of l.reader ≤ l.at) × (run 1024 start (take l.at l.bytes) ≡ Some (state_of l.reader))
