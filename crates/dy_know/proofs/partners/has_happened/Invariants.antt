use Rattle.std.proofs.Common.{◌≡◌, ℕ, ◌<◌, Some}
use Rattle.std.specs.List.{slice_get}
use Rattle.dy_syntax.specs.Meaning.{atom_of, event_of}
use Rattle.dy_sound.specs.Words.{event_words, args_meant}
use Rattle.dy_know.specs.declared.happened.Happened.{Happened}
use Rattle.dy_know.proofs.partners.has_happened.Given as goal

-- none of those so far is the event
abbrev pub invariant-loop-one : goal.invariant-loop-one
invariant-loop-one l = (k : ℕ) (h : Happened) → k < l.one-index → slice_get l.happened k ≡ Some h → h.name ≡ l.atom.event.word
    → args_meant (event_words (event_of l.event) l.args) (atom_of l.atom) ≡ Some h.args → ⊥
