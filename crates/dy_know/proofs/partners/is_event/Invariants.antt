use Rattle.std.proofs.Common.{◌≡◌, ℕ, ◌<◌, Some}
use Rattle.std.specs.List.{slice_get}
use Rattle.dy_term.specs.Terms.{Term}
use Rattle.dy_syntax.specs.Names.{Nm}
use Rattle.dy_syntax.specs.Meaning.{atom_of, event_of}
use Rattle.dy_sound.specs.Words.{event_words, value_meant}
use Rattle.dy_know.proofs.partners.is_event.Given as goal

-- the words so far stand for the values in their places
abbrev pub invariant-loop-i : goal.invariant-loop-i
invariant-loop-i l = (k : ℕ) (name : Nm) (value : Term) → k < l.i → slice_get (atom_of l.fn.atom).args k ≡ Some name → slice_get l.fn.happened.args k ≡ Some value
    → value_meant (event_words (event_of l.fn.event) l.fn.args) name ≡ Some value
