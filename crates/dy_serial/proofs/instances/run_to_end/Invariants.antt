use Rattle.std.proofs.Common.{◌-◌, ◌^◌, length}
use Rattle.dy_core.specs.BookMeaning.{trace_of}
use Rattle.dy_serial.proofs.Going.{GoesOn}
use Rattle.dy_serial.proofs.instances.run_to_end.Given as goal

abbrev pub invariant-loop : goal.invariant-loop
invariant-loop l = GoesOn l.instance l.fn.book l.book

abbrev pub decreases-loop : goal.decreases-loop
decreases-loop l = 2 ^ 32 - length (trace_of l.book)
