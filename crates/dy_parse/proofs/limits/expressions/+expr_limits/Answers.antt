use Rattle.std.proofs.Common.{sym, ◌∙◌, arith}
use Rattle.dy_syntax.specs.Meaning.{args_of, expr_of, use_of}
use Rattle.dy_parse.specs.Limits.{counts_args, excess_in_use, expr_within, inside_args}
use Rattle.dy_parse.specs.Mirrors.Limits.{first_of, note_all}
use Rattle.dy_parse.proofs.LimitLaws.Folds.{fold_more, note_all_append, noted_in_turn}
use Rattle.dy_parse.proofs.limits.expressions.+expr_limits.Goals as goal

pub note_row-loop-expr-preserved : goal.note_row-loop-expr-preserved
note_row-loop-expr-preserved t c =
    rw c.note_within.ensures
    (sym (fold_more note_all note_all_append (expr_within c.args.room) expr_of c.args.exprs.now c.loop-expr.expr-index c.expr-item.result (first_of c.loop-expr.first) (omega arith) c.expr-item.is)
    ∙ c.loop-expr.invariant)

pub note_inside-returns-in-Aead : goal.note_inside-returns-in-Aead
note_inside-returns-in-Aead t c =
    let m = c.in-Aead in
    rw (m.is, ← c.deref-in-Aead.ensures)
    (noted_in_turn (excess_in_use (use_of m.usage)) (counts_args (args_of m.tuple)) (inside_args c.args.room (args_of m.tuple))
    (expr_within c.args.room (expr_of c.deref-in-Aead.result.now)) _ _ _ _ c.note_use.ensures c.note_tuple-in-Aead.ensures c.note_within-in-Aead.ensures)
