use Rattle.dy_show.proofs.RoundTrip as trip
use Rattle.dy_show.proofs.laws.reads_again.Goals as goal

pub returns : goal.returns
returns c = trip.reads_again
