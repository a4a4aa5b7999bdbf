use Rattle.dy_check.proofs.conditions.sealing.implies.Goals as goal

pub returns : goal.returns
returns c = λ label other h k. c.within.ensures.labels label other h.names k.names h.rows k.rows
