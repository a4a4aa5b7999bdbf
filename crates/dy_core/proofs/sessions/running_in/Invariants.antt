use Rattle.std.proofs.Common.{ℕ, ◌<◌}
use Rattle.dy_entry.specs.Meaning.{entries_of}
use Rattle.dy_traces.specs.Instances.{IsRunningIn}
use Rattle.dy_core.proofs.sessions.running_in.Given as goal

abbrev pub invariant-loop-index : goal.invariant-loop-index
invariant-loop-index l = (k : ℕ) → k < l.index → IsRunningIn (entries_of l.entries) l.session k → ⊥
