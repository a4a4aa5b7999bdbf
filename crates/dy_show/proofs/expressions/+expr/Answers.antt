use Rattle.std.proofs.Common.{sym, ◌∙◌, arith}
use Rattle.dy_syntax.specs.Meaning.{expr_of}
use Rattle.dy_show.specs.Canonical.{expr, right_paren}
use Rattle.dy_show.proofs.Rows.{fields_listed}
use Rattle.dy_show.proofs.Writing.{put_all_append, listed_more, listed_done}
use Rattle.dy_show.proofs.expressions.+expr.Goals as goal

pub fields-loop-field-preserved : goal.fields-loop-field-preserved
fields-loop-field-preserved t c =
    rw (c.in_ok-expr.ensures, c.in_ok-separate.ensures)
    (sym (listed_more right_paren expr expr_of c.loop-field.is_first c.deref-field-items.result.now c.loop-field.field-index c.field-item.result c.loop-field.page (omega arith) c.field-item.is)
    ∙ c.loop-field.invariant)

pub fields-returns : goal.fields-returns
fields-returns t c =
    rw (c.in_ok-mark.ensures, fields_listed c.args.tuple.now, ← c.deref-field-items.ensures.value)
    (listed_done right_paren expr expr_of c.loop-field.is_first c.deref-field-items.result.now c.loop-field.field-index c.loop-field.page _ (omega arith) c.loop-field.invariant)

pub expr-returns-in_ok-mark-in-Penc : goal.expr-returns-in_ok-mark-in-Penc
unfolding expr
expr-returns-in_ok-mark-in-Penc t c =
    rw (c.in-Penc.is, c.in_ok-mark-in-Penc.ensures, c.in_ok-fields-in-Penc.ensures, c.in_ok-seal-in-Penc.ensures) (simp put_all_append)

pub expr-returns-in_ok-mark-in-Sign : goal.expr-returns-in_ok-mark-in-Sign
unfolding expr
expr-returns-in_ok-mark-in-Sign t c =
    rw (c.in-Sign.is, c.in_ok-mark-in-Sign.ensures, c.in_ok-fields-in-Sign.ensures, c.in_ok-seal-in-Sign.ensures) (simp put_all_append)

pub expr-returns-in_ok-mark-in-Mac : goal.expr-returns-in_ok-mark-in-Mac
unfolding expr
expr-returns-in_ok-mark-in-Mac t c =
    rw (c.in-Mac.is, c.in_ok-mark-in-Mac.ensures, c.in_ok-fields-in-Mac.ensures, c.in_ok-seal-in-Mac.ensures) (simp put_all_append)

pub expr-returns-in_ok-mark-in-Aead-2 : goal.expr-returns-in_ok-mark-in-Aead-2
unfolding expr
expr-returns-in_ok-mark-in-Aead-2 t c =
    rw (
      c.in-Aead.is,
      c.in_ok-mark-in-Aead-2.ensures,
      c.in_ok-expr-in-Aead.ensures,
      c.deref-in-Aead.ensures,
      c.in_ok-mark-in-Aead.ensures,
      c.in_ok-fields-in-Aead.ensures,
      c.in_ok-seal-in-Aead.ensures,
    )
    (simp put_all_append)
