use Rattle.std.proofs.Common.{◌≡◌, ◌++◌, take}
use Rattle.std.specs.List.{flat_map}
use Rattle.dy_know.specs.ReportMeaning.{breach_of}
use Rattle.dy_know.specs.AuditText.{breach_line}
use Rattle.dy_know.proofs.audit_text.put_breaches.Given as goal

abbrev pub invariant-loop-breach : goal.invariant-loop-breach
invariant-loop-breach l =
    l.text.items ≡ l.initial.text.items ++ flat_map (λ breach. breach_line (breach_of breach)) (take l.breach-index l.breaches)
