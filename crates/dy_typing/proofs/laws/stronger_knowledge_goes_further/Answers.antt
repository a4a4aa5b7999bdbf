use Rattle.dy_typing.proofs.ValueLaws.{Laws}
use Rattle.dy_typing.proofs.Expressions.{known_of_expr-weaker}
use Rattle.dy_typing.proofs.Conditions.{IsMet-stronger}
use Rattle.dy_typing.proofs.laws.stronger_knowledge_goes_further.Goals as goal

pub returns : goal.returns
returns c =
    let laws : Laws = record {
      meet_implies = c.what_a_meet_implies.ensures;
      itself = c.weaker_knowledge_is_ordered.ensures.itself;
      onward = c.weaker_knowledge_is_ordered.ensures.onward;
      fits = c.stronger_knowledge_has_more.ensures.fits;
      narrow_by = c.weaker_parts_give_weaker_knowledge.ensures.narrow_by;
      identify_with = c.weaker_parts_give_weaker_knowledge.ensures.identify_with;
    } in
    record {
      expressions = λ decls stronger weaker expr h. known_of_expr-weaker laws decls stronger weaker h expr;
      conditions = λ decls stronger weaker demand h. IsMet-stronger laws decls stronger weaker h demand;
    }
