use Rattle.dy_label.specs.Labels.{is_open_to}
use Rattle.dy_label.specs.Words.{place_of}
use Rattle.dy_label.proofs.LabelsOpen.{open-with_readers, with_readers-twice}
use Rattle.dy_label.proofs.label_laws.readers_are_put_in_place.Goals as goal

pub returns-clause-in_handler : goal.returns-clause-in_handler
returns-clause-in_handler g c = λ words choice label. with_readers-twice words (place_of choice) label

pub returns-clause-by_words : goal.returns-clause-by_words
returns-clause-by_words g c = λ words reads label. open-with_readers words reads label

pub returns-clause-by_places : goal.returns-clause-by_places
returns-clause-by_places g c = λ places corruptions label. open-with_readers places (is_open_to corruptions) label
