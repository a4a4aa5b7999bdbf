use Rattle.std.proofs.Common.{◌^◌, bit_or, sym, ◌∙◌}
use Rattle.std.proofs.lemmas.Bool.{or_left}
use Rattle.dy_label.specs.Tables.{is_set, bit_of, opens_in}
use Rattle.dy_label.proofs.LabelsOpen.{open-more}
use Rattle.dy_label.proofs.RowBits.{is_set-or, with_bit-lt}
use Rattle.dy_label.proofs.laws_of_words.tables_never_fall.Goals as goal

pub returns-clause-labels : goal.returns-clause-labels
returns-clause-labels c = λ label row other more. open-more (opens_in row) (opens_in other) (λ atom. more (bit_of atom)) label

pub returns-clause-tables : goal.returns-clause-tables
returns-clause-tables c = λ label table of_label row bit below small in_row.
    let other = bit_or row (2 ^ bit) in
    of_label other (with_bit-lt row bit below small)
    ∙ returns-clause-labels c label row other
    (λ place h. is_set-or row (2 ^ bit) place ∙ or_left (is_set row place) (is_set (2 ^ bit) place) h)
    (sym (of_label row below) ∙ in_row)
