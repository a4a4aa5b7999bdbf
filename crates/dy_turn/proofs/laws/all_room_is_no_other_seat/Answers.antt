use Rattle.dy_turn.proofs.Changing.{others_spent, all_parts}
use Rattle.dy_turn.proofs.laws.all_room_is_no_other_seat.Goals as goal

pub returns : goal.returns
returns g c origin s kept i v at = (others_spent s kept i v at, all_parts s kept i v at)
