-- How the code takes a turn of an instance.
use Rattle.std.specs.Prelude.{◌≡◌, ℕ, Option, Some, None}
use Rattle.dy_eval.specs.declared.instances.Instance.{Instance}
use Rattle.dy_eval.specs.TakenMeaning.{KeepsWritten}
use Rattle.dy_eval.specs.Runs.{Left, tell, Standing, Goes, Awaits, Ended}

-- The instance is as it was, but for what is written after what was.
pub record OnlyWrites (old new : Instance) : Type 0 where
  pub lines : new.lines ≡ old.lines
  pub first : new.first ≡ old.first
  pub at : new.at ≡ old.at
  pub stand : new.stand ≡ old.stand
  pub names : KeepsWritten old.names new.names

-- This is left once an index is told.
abbrev pub Told : Standing → Option ℕ → Left → Type 0
Told (Goes left) landed now = now ≡ left
Told (Awaits binds left) None now = now ≡ left
Told (Awaits binds left) (Some index) now = now ≡ tell index binds left
Told (Ended outcome) landed now = Unit {0}
