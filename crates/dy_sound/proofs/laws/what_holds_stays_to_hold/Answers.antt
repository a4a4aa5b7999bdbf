use Rattle.dy_sound.proofs.LongerValid.{valid_is_made, valid_still}
use Rattle.dy_sound.proofs.LongerKnowledge.{knowledge_still}
use Rattle.dy_sound.proofs.OneMore.{numbered_made}
use Rattle.dy_sound.proofs.laws.what_holds_stays_to_hold.Goals as goal

pub returns-clause-valid : goal.returns-clause-valid
returns-clause-valid c = valid_still c.laws_below.ensures

pub returns-clause-knowledge : goal.returns-clause-knowledge
returns-clause-knowledge c = λ decls T more choice names k valid.
    knowledge_still c.laws_below.ensures decls T more choice names k
    (numbered_made T names (λ written stands. valid_is_made decls T written.bytes (valid written stands)))
