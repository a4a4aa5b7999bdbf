use Rattle.std.proofs.Common.{take}
use Rattle.dy_syntax.specs.Meaning.{file_of}
use Rattle.dy_entry.specs.Meaning.{entries_of}
use Rattle.dy_know.specs.MirrorAuditors.{Audits}
use Rattle.dy_know.proofs.auditing.audit.Given as goal

-- the entries so far are audited
abbrev pub invariant-loop-entry : goal.invariant-loop-entry
invariant-loop-entry l = Audits l.auditor (file_of l.fn.file).decls (entries_of (take l.entry-index l.entries))
