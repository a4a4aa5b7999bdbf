use Rattle.dy_plan.proofs.OneSerial.{one_serial}
use Rattle.dy_plan.proofs.laws.one_serial_interleaving.Goals as goal

pub returns : goal.returns
returns c bytes file T other is_T serial_T is_other serial_other =
    one_serial bytes file T other is_T serial_T is_other serial_other
