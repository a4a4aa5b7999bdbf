use Rattle.std.proofs.Common.{◌++◌, sym, ◌∙◌, arith}
use Rattle.dy_syntax.specs.Names.{Pke, Sig, Aead, Mac}
use Rattle.dy_syntax.specs.Expressions.{list_of}
use Rattle.dy_syntax.specs.Meaning.{nm_of, quote_of, use_of, expr_of, args_of}
use Rattle.dy_syntax.specs.MirrorMeaning.{least_of}
use Rattle.dy_syntax.specs.Parts.{parts_of_expr, parts_of_exprs, parts_of_sealed}
use Rattle.dy_syntax.proofs.Noted.{parts_more, parts_done, parts_then}
use Rattle.dy_syntax.proofs.Rows.{parts_of_args}
use Rattle.dy_syntax.proofs.parts.expressions.+note_expr.Goals as goal

pub note_tuple-loop-arg-preserved : goal.note_tuple-loop-arg-preserved
note_tuple-loop-arg-preserved t c =
    rw c.note_expr.ensures
    (sym (parts_more parts_of_expr expr_of _ _ c.deref-arg-items.result.now c.loop-arg.arg-index c.arg-item.result (least_of c.loop-arg.least) (omega arith) c.arg-item.is)
    ∙ c.loop-arg.invariant)

pub note_tuple-returns : goal.note_tuple-returns
note_tuple-returns t c =
    rw (parts_of_args c.args.tuple.now, ← c.deref-arg-items.ensures.value)
    (parts_done parts_of_expr expr_of _ _ c.deref-arg-items.result.now c.loop-arg.arg-index _ _ (omega arith) c.loop-arg.invariant)

pub note_expr-returns-in-Penc : goal.note_expr-returns-in-Penc
note_expr-returns-in-Penc t c =
    let m = c.in-Penc in
    let sealed = parts_of_sealed Pke (nm_of m.key) (use_of m.usage) (quote_of m.tuple.tag) (list_of (args_of m.tuple)) in
    rw m.is (parts_then _ _ sealed (parts_of_exprs (args_of m.tuple)) _ _ _ c.note_sealed.ensures c.note_tuple-in-Penc.ensures)

pub note_expr-returns-in-Sign : goal.note_expr-returns-in-Sign
note_expr-returns-in-Sign t c =
    let m = c.in-Sign in
    let sealed = parts_of_sealed Sig (nm_of m.key) (use_of m.usage) (quote_of m.tuple.tag) (list_of (args_of m.tuple)) in
    rw m.is (parts_then _ _ sealed (parts_of_exprs (args_of m.tuple)) _ _ _ c.note_sealed-in-Sign.ensures c.note_tuple-in-Sign.ensures)

pub note_expr-returns-in-Mac : goal.note_expr-returns-in-Mac
note_expr-returns-in-Mac t c =
    let m = c.in-Mac in
    let sealed = parts_of_sealed Mac (nm_of m.key) (use_of m.usage) (quote_of m.tuple.tag) (list_of (args_of m.tuple)) in
    rw m.is (parts_then _ _ sealed (parts_of_exprs (args_of m.tuple)) _ _ _ c.note_sealed-in-Mac.ensures c.note_tuple-in-Mac.ensures)

pub note_expr-returns-in-Aead : goal.note_expr-returns-in-Aead
note_expr-returns-in-Aead t c =
    let m = c.in-Aead in
    let sealed = parts_of_sealed Aead (nm_of m.key) (use_of m.usage) (quote_of m.tuple.tag) (list_of (args_of m.tuple)) in
    let first = parts_then _ _ sealed (parts_of_exprs (args_of m.tuple)) _ _ _ c.note_sealed-in-Aead.ensures c.note_tuple-in-Aead.ensures in
    rw (m.is, ← c.deref-in-Aead.ensures) (parts_then _ _ (sealed ++ parts_of_exprs (args_of m.tuple)) (parts_of_expr (expr_of c.deref-in-Aead.result.now)) _ _ _ first c.note_expr-in-Aead.ensures)
