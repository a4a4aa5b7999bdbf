use Rattle.dy_sound.proofs.WordsMeant.{label_means, usage_means, args_mean}
use Rattle.dy_sound.proofs.laws_of_words.declarations_mean_the_same.Goals as goal

pub returns-clause-labels : goal.returns-clause-labels
returns-clause-labels c = label_means

pub returns-clause-usages : goal.returns-clause-usages
returns-clause-usages c = usage_means

pub returns-clause-arguments : goal.returns-clause-arguments
returns-clause-arguments c = args_mean
