use Rattle.std.proofs.Common.{sym, ◌∙◌, arith}
use Rattle.dy_parse.specs.Mirrors.Limits.{first_of, note_all}
use Rattle.dy_parse.proofs.LimitLaws.Folds.{fold_more, note_all_append}
use Rattle.dy_parse.proofs.limits.members.note_each.Goals as goal

pub loop-part-preserved : goal.loop-part-preserved
loop-part-preserved g c =
    let part = g.T.Noted in
    rw c.note.ensures
    (sym (fold_more note_all note_all_append part.excess part.whole c.args.parts.now c.loop-part.part-index c.part-item.result (first_of c.loop-part.first) (omega arith) c.part-item.is)
    ∙ c.loop-part.invariant)
