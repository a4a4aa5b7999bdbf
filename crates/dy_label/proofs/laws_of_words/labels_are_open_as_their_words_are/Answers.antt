use Rattle.dy_label.proofs.WordsOpen.{open-meaning_of}
use Rattle.dy_label.proofs.laws_of_words.labels_are_open_as_their_words_are.Goals as goal

pub returns : goal.returns
returns c = open-meaning_of
