-- Counts of faults, by which an error is known to come from outside.
use Rattle.std.specs.Prelude.{min, ◌-◌, ◌≡◌, ℕ, ◌+◌, ◌^◌, ◌<◌, ◌≤◌, Bool, true, false, ◌&&◌, ◌==◌, nat_lt, List, length, Result, Ok, Err}

-- One more of a count that is kept in 64 bits.
abbrev pub one_more : ℕ → ℕ
one_more count = min (count + 1) (2 ^ 64 - 1)

-- A count rose. One that is kept in 64 bits stands still at its end, where nothing tells of one more.
abbrev pub Rose : ℕ → ℕ → Type 0
Rose before after = before + 1 < 2 ^ 64 → before < after

-- The count never falls, rises where the call went wrong, and else stays.
pub record HasCause (went_wrong : Bool) (before after : ℕ) : Type 0 where
  pub later : before ≤ after
  pub rose : went_wrong ≡ true → Rose before after
  pub kept : went_wrong ≡ false → after ≡ before

-- A write went wrong that failed, or that took nothing of a piece that is not empty.
abbrev pub took_none : {E : Type 0} → Result ℕ E → List ℕ → Bool
took_none (Ok n) piece = (n == 0) && nat_lt 0 (length piece)
took_none (Err e) piece = true
