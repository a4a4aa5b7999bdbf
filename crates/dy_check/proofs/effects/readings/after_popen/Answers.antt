use Rattle.std.proofs.lemmas.Result.{on_ok_weaker}
use Rattle.dy_check.proofs.effects.readings.after_popen.Goals as goal

pub returns : goal.returns
returns c = on_ok_weaker c.match_case.result (λ h k value t. h k _ _ _ t (c.in_ok-opening.ensures k t)) c.match_case.ensures
