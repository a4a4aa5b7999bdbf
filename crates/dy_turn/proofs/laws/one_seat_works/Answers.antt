use Rattle.std.proofs.Common.{sym}
use mathlib.Core.Logic.{dite}
use native.Mathlib.Decide.{ℕ_discrete}
use Rattle.dy_turn.proofs.Changing.{works_alone}
use Rattle.dy_turn.proofs.laws.one_seat_works.Goals as goal

pub returns : goal.returns
returns g c origin s kept i j v w at there m n works works' =
    dite (ℕ_discrete j i) (λ same. sym same) (λ other. absurd (works_alone s kept i v m at works j w n other there works'))
