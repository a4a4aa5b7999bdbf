-- Steps that the code takes when it looks something up.
use Rattle.std.specs.Prelude.{ℕ, Bool, false, ◌&&◌, List, Option, Some, None, if◌then◌else◌}
use Rattle.dy_label.specs.Labels.{Version, covers}
use Rattle.dy_label.specs.StateOrder.{comes_before, is_after}
use Rattle.dy_entry.specs.declared.outputs.Output.{Output}
use Rattle.dy_entry.specs.declared.outputs.Output.TheVariants as outputs
use Rattle.dy_entry.specs.Entries.{Entry, Corrupt}
use Rattle.dy_entry.specs.LookUps.{is_message_of, is_cert_of}

-- A State that fits: its index, and its session and version.
abbrev pub Candidate : Type 0
Candidate = ℕ × (ℕ × ℕ)

-- the earlier of what was found and a State that stands at a later index, if that comes after what is given
abbrev pub earlier_of : Option (ℕ × ℕ) → Option Candidate → Candidate → Option Candidate
earlier_of from None other = if is_after from other.1 then Some other else None
earlier_of from (Some found) other =
    if is_after from other.1 && comes_before other.1 found.1 then Some other else Some found

-- the entry is a corruption that covers this version
abbrev pub covers_version : List ℕ → ℕ → ℕ → Entry → Bool
covers_version principal session version (Corrupt step corruption) =
    covers corruption (Version principal session version)
covers_version principal session version e = false

-- the entry is an output of this kind and of this instance
abbrev pub is_output : Output → ℕ → Entry → Bool
is_output outputs.Message = is_message_of
is_output outputs.Cert = is_cert_of
