use Rattle.std.proofs.Common.{ℕ, List, map}
use Rattle.dy_entry.specs.Entries.{Entry}
use Rattle.dy_derive.specs.KnowledgeMeaning.{Stands}
use Rattle.dy_know.specs.ReportMeaning.{breach_of}
use Rattle.dy_know.specs.MirrorAuditors.{KeepsSecrets, AllKnown}
use Rattle.dy_know.specs.MirrorReports.{ListsNonceBreaches}
use Rattle.dy_know.proofs.auditors.Auditor.nonce_breaches.Given as goal

-- the breaches of the nonces so far are listed
abbrev pub invariant-loop-place : goal.invariant-loop-place
invariant-loop-place l = (T : List Entry) (known missing : List ℕ) → Stands l.self.knowledge T → KeepsSecrets known missing T l.self.notes.secrets.items
    → AllKnown known T → ListsNonceBreaches l.place T (map breach_of l.breaches)
