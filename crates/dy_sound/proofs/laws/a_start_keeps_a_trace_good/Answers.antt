use Rattle.dy_sound.proofs.Starts.{good_with_start}
use Rattle.dy_sound.proofs.laws.a_start_keeps_a_trace_good.Goals as goal

pub returns : goal.returns
returns c = λ bytes file T step handler principal session args message is_one good may.
    good_with_start bytes file T is_one c.laws_below.ensures good step handler principal session args message may
