-- What the code keeps of a plan and a trace in which its steps are looked up.
use Rattle.std.specs.Prelude.{ℕ, List}
use Rattle.dy_syntax.specs.Meaning.{plan_of}
use Rattle.dy_syntax.specs.Plans.{Plan}
use Rattle.dy_entry.specs.Entries.{Entry}
use Rattle.dy_entry.specs.Meaning.{entry_of, entries_of}
use Rattle.dy_plan.specs.declared.names.Names as names
use Rattle.dy_plan.specs.declared.naming.Found as found
use Rattle.dy_plan.specs.declared.naming.OpenedSession as opened
use Rattle.dy_plan.specs.Naming.{OpenedSession}

abbrev pub plan_in : names.Names → Plan
plan_in n = plan_of n.plan.now

abbrev pub trace_in : names.Names → List Entry
trace_in n = entries_of n.entries.now

abbrev pub found_in : found.Found → ℕ × Entry
found_in f = (f.index, entry_of f.entry.now)

abbrev pub session_in : opened.OpenedSession → OpenedSession
session_in s = record { principal = s.principal.now; number = s.number }
