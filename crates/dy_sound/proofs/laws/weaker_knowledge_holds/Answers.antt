use Rattle.dy_sound.proofs.Weaker.{weaker_holds}
use Rattle.dy_sound.proofs.laws.weaker_knowledge_holds.Goals as goal

pub returns : goal.returns
returns c = weaker_holds c.laws_below.ensures
