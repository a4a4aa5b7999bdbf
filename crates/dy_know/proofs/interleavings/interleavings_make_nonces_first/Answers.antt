use Rattle.dy_know.proofs.MadeTraces.{derived_is_made}
use Rattle.dy_know.proofs.interleavings.interleavings_make_nonces_first.Goals as goal

pub returns : goal.returns
returns c = λ bytes file T is. record { made = derived_is_made bytes file T is }
