use Rattle.dy_label.proofs.Implication.{implies-by_rows}
use Rattle.dy_label.proofs.laws_of_words.implication_by_rows.Goals as goal

pub returns : goal.returns
returns c = λ l m uses_l uses_m. implies-by_rows l m uses_l uses_m
