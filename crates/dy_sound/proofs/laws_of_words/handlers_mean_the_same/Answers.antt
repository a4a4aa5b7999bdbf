use Rattle.std.proofs.Common.{[]}
use Rattle.dy_sound.proofs.WrittenWords.{own_label_means, own_usage_means}
use Rattle.dy_sound.proofs.laws_of_words.handlers_mean_the_same.Goals as goal

pub returns-clause-labels : goal.returns-clause-labels
returns-clause-labels c = own_label_means []

pub returns-clause-usages : goal.returns-clause-usages
returns-clause-usages c = own_usage_means
