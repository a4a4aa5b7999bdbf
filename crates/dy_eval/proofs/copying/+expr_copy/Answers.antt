use Rattle.std.proofs.Common.{◌∙◌, ap, map}
use Rattle.dy_syntax.specs.Meaning.{expr_of}
use Rattle.dy_eval.proofs.Rows.{row_copied}
use Rattle.dy_eval.proofs.copying.+expr_copy.Goals as goal

pub tuple_copy-returns-clause-args : goal.tuple_copy-returns-clause-args
tuple_copy-returns-clause-args t c =
    row_copied c.in_ok-exprs_copy.field-0 c.args.tuple.now.args (c.in_ok-exprs_copy.ensures ∙ ap (map expr_of) c.as_slice.ensures.value)
