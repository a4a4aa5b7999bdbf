use Rattle.dy_plan.proofs.Places.{is_share}
use Rattle.dy_plan.proofs.dealing.each_place_has_one_worker.Goals as goal

pub returns : goal.returns
returns c = is_share
