use Rattle.dy_typing.proofs.ValueLaws.{Laws}
use Rattle.dy_typing.proofs.Order.{IsWeakerKnowledge-itself, IsWeakerKnowledge-onward}
use Rattle.dy_typing.proofs.laws.weaker_knowledge_of_a_handler_is_ordered.Goals as goal

pub returns : goal.returns
returns c =
    let laws : Laws = record {
      meet_implies = c.what_a_meet_implies.ensures;
      itself = c.weaker_knowledge_is_ordered.ensures.itself;
      onward = c.weaker_knowledge_is_ordered.ensures.onward;
      fits = c.stronger_knowledge_has_more.ensures.fits;
      narrow_by = c.weaker_parts_give_weaker_knowledge.ensures.narrow_by;
      identify_with = c.weaker_parts_give_weaker_knowledge.ensures.identify_with;
    } in
    record { itself = IsWeakerKnowledge-itself laws; onward = IsWeakerKnowledge-onward laws }
