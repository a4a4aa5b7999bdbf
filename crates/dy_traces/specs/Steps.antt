-- The steps of a trace. A step has a number, and one entry.
use Rattle.std.specs.Prelude.{◌≡◌, ℕ, ◌<◌, Bool, true, false, ◌==◌, List, Option, Some, None}
use Rattle.std.specs.List.{slice_get, position}
use Rattle.dy_entry.specs.Entries.{Entry, Start, Corrupt, Forge, Inject, Skip}
use Rattle.dy_traces.specs.declared.limits.TheConstants.{MAX_STEPS}

-- the entry is that of the step of this number
abbrev pub has_step : ℕ → Entry → Bool
has_step step (Start other handler principal session args message) = other == step
has_step step (Corrupt other corruption) = other == step
has_step step (Forge other) = other == step
has_step step (Inject other value) = other == step
has_step step (Skip other) = other == step
has_step step e = false

-- the index of the first entry of this step
abbrev pub step_at : List Entry → ℕ → Option ℕ
step_at T step = position (has_step step) T

-- No entry has this step number.
abbrev pub IsUnused : List Entry → ℕ → Type 0
IsUnused T step = step_at T step ≡ None

-- All step numbers are below 1,024.
abbrev pub IsShort : List Entry → Type 0
IsShort T = (i step : ℕ) (e : Entry) → slice_get T i ≡ Some e → has_step step e ≡ true → step < MAX_STEPS
