use Rattle.dy_serial.proofs.Texts.{interleaving_has_text}
use Rattle.dy_serial.proofs.laws.an_interleaving_has_a_text.Goals as goal

pub returns : goal.returns
returns c = λ bytes file T is_one few.
    interleaving_has_text bytes file T is_one few (λ i e at. c.values_are_small.ensures bytes file T i e is_one at)
