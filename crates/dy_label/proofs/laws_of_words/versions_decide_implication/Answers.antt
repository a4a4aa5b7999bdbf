use Rattle.dy_label.proofs.Implication.{implies-by_versions}
use Rattle.dy_label.proofs.laws_of_words.versions_decide_implication.Goals as goal

pub returns : goal.returns
returns c = λ l m. implies-by_versions l m
