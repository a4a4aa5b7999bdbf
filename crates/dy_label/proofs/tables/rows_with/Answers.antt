use Rattle.std.proofs.Common.{◌-◌, sym, ◌∙◌}
use Rattle.dy_label.proofs.RowBits.{is_set-low, is_set-block, is_set-full, is_set-zero, is_set-shifted, is_set-not_shifted}
use Rattle.dy_label.proofs.tables.rows_with.Goals as goal

pub returns-then-bit-lt6 : goal.returns-then-bit-lt6
returns-then-bit-lt6 c = λ place h. is_set-low c.args.block place c.args.bit c.if-bit-lt6.true h

pub returns-then-block-bit-eq1 : goal.returns-then-block-bit-eq1
returns-then-block-bit-eq1 c = λ place h.
    is_set-full place h
    ∙ sym (is_set-block c.args.block place c.args.bit h c.if-bit-lt6.false ∙ is_set-shifted c.args.block (c.args.bit - 6) c.if-block-bit-eq1.true)

pub returns-else-block-bit-eq1 : goal.returns-else-block-bit-eq1
returns-else-block-bit-eq1 c = λ place h.
    is_set-zero place
    ∙ sym (is_set-block c.args.block place c.args.bit h c.if-bit-lt6.false ∙ is_set-not_shifted c.args.block (c.args.bit - 6) c.if-block-bit-eq1.false)
