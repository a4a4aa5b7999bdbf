use Rattle.dy_show.proofs.OneText as text
use Rattle.dy_show.proofs.laws.one_text.Goals as goal

pub returns : goal.returns
returns c = text.one_text
