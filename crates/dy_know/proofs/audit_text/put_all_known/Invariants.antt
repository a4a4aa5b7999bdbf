use Rattle.std.proofs.Common.{◌≡◌, ◌++◌, take}
use Rattle.std.specs.List.{flat_map}
use Rattle.dy_know.specs.ReportMeaning.{known_of}
use Rattle.dy_know.specs.AuditText.{known_line}
use Rattle.dy_know.proofs.audit_text.put_all_known.Given as goal

abbrev pub invariant-loop-item : goal.invariant-loop-item
invariant-loop-item l = l.text.items ≡ l.initial.text.items ++ flat_map (λ item. known_line (known_of item)) (take l.item-index l.known)
