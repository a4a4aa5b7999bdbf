use Rattle.std.proofs.Common.{◌≡◌, ◌++◌, map, drop}
use Rattle.dy_entry.specs.Meaning.{entry_of}
use Rattle.dy_trace_text.specs.TraceText.{lines_from}
use Rattle.dy_trace_text.proofs.trace_text.write_trace.Given as goal

-- what is written and the lines of the entries that are left give all lines
abbrev pub invariant-loop-index : goal.invariant-loop-index
invariant-loop-index l = l.page ++ lines_from l.index (map entry_of (drop l.index l.entries)) ≡ lines_from 0 (map entry_of l.entries)
