-- What is said of the texts that `play` writes.
use Rattle.std.specs.Prelude.{◌≡◌, ℕ, List, ◌++◌, map, codes}
use Rattle.dy_syntax.specs.Files.{File}
use Rattle.dy_entry.specs.Entries.{Entry}
use Rattle.dy_trace_text.specs.TraceText.{trace_text}
use Rattle.dy_know.specs.Breaches.{without_recipe}
use Rattle.dy_know.specs.Reports.{Report, IsReport}
use Rattle.dy_know.specs.AuditText.{audit_text}
use Rattle.dy_tool.specs.Due.{IsSerialRun}

-- Each text is that of one and the same trace, and of a report on it. The two reports differ in recipes alone.
pub record AreOfOneRun (bytes text other : List ℕ) : Type 0 where
  pub file : File
  pub T : List Entry
  pub run : IsSerialRun bytes file T
  pub report : Report
  pub is_report : IsReport file.decls T report
  pub text_is : text ≡ trace_text T ++ audit_text report
  pub other_report : Report
  pub is_other_report : IsReport file.decls T other_report
  pub other_is : other ≡ trace_text T ++ audit_text other_report
  pub same_known : report.known ≡ other_report.known
  pub same_breaches : map without_recipe report.breaches ≡ map without_recipe other_report.breaches

-- The last line of the text is `breaches 0`, and others stand before it.
pub record EndsUnbreached (text : List ℕ) : Type 0 where
  pub lines : List ℕ
  pub ends : text ≡ lines ++ codes "\nbreaches 0\n"
