use Rattle.dy_syntax.specs.Meaning.{plan_of}
use Rattle.dy_core.specs.BookMeaning.{trace_of}
use Rattle.dy_serial.specs.Running.{GrowsTo}
use Rattle.dy_serial.specs.MirrorRunning.{HasRun}
use Rattle.dy_serial.proofs.plans.run_serially.Given as goal

-- the steps so far have run
abbrev pub invariant-loop-step : goal.invariant-loop-step
invariant-loop-step l = record {
  ran : HasRun (plan_of l.plan) l.step (trace_of l.book);
  grows : GrowsTo l.fn.book l.book;
}
