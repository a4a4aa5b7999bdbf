use Rattle.dy_label.proofs.Implication.{row_of_choice, choice_of_row}
use Rattle.dy_label.proofs.laws_of_words.choices_and_rows.Goals as goal

pub returns-clause-lawful : goal.returns-clause-lawful
returns-clause-lawful c = λ choice corruptions. row_of_choice choice corruptions

pub returns-clause-given : goal.returns-clause-given
returns-clause-given c = λ row lawful. choice_of_row row lawful
