use Rattle.std.proofs.Common.{◌/◌, ◌%◌, ap, ◌∙◌, arith}
use Rattle.std.proofs.lemmas.List.{get_or-replicate}
use Rattle.dy_label.specs.Tables.{is_set}
use Rattle.dy_label.proofs.RowBits.{is_set-full}
use Rattle.dy_label.proofs.tables.every_row.Goals as goal

pub returns : goal.returns
returns c = λ row h. ap (λ block. is_set block (row % 64)) (get_or-replicate 64 (row / 64) 18446744073709551615 0 (omega arith)) ∙ is_set-full (row % 64) (omega arith)
