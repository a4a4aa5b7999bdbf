use Rattle.std.proofs.Common.{refl}
use Rattle.dy_sound.proofs.DeclarationWords.{case_matches, state_matches, event_matches}
use Rattle.dy_sound.proofs.laws_of_words.declared_words_stand_for_the_same.Goals as goal

pub returns-clause-cases : goal.returns-clause-cases
returns-clause-cases c = case_matches

pub returns-clause-states : goal.returns-clause-states
returns-clause-states c = λ setting choice names state here session version stands fields distinct given self session_is here_is.
    state_matches setting choice names state here names.principal session version stands fields distinct given refl self session_is here_is

pub returns-clause-events : goal.returns-clause-events
returns-clause-events c = event_matches
