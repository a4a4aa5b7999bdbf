use Rattle.std.proofs.Common.{ℕ, List, map}
use Rattle.dy_entry.specs.Entries.{Entry}
use Rattle.dy_know.specs.ReportMeaning.{known_of}
use Rattle.dy_know.specs.MirrorAuditors.{KeepsSecrets}
use Rattle.dy_know.specs.MirrorReports.{ListsKnownBelow}
use Rattle.dy_know.proofs.reporting.known_nonces.Given as goal

-- the nonces so far are listed
abbrev pub invariant-loop-place : goal.invariant-loop-place
invariant-loop-place l = (T : List Entry) (known missing : List ℕ) → KeepsSecrets known missing T l.secrets
    → ListsKnownBelow known (l.place) T (map known_of l.known)
