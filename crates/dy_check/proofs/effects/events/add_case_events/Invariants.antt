use Rattle.std.proofs.Common.{map, take, fold}
use Rattle.dy_label.specs.Words.{StaticLabel}
use Rattle.dy_syntax.specs.Meaning.{atom_of}
use Rattle.dy_types.specs.Tables.{HasTable}
use Rattle.dy_typing.specs.Knowledge.{Knowledge}
use Rattle.dy_typing.specs.Effects.{add_guarded}
use Rattle.dy_check.specs.Meaning.{knowledge_of, stands_of}
use Rattle.dy_check.specs.MirrorEvents.{atom_events}
use Rattle.dy_check.specs.Tables.{KnowledgeHasTables}
use Rattle.dy_check.proofs.effects.events.add_case_events.Given as goal

-- the events so far are added
abbrev pub invariant-loop-atom : goal.invariant-loop-atom
invariant-loop-atom l =
    (k : Knowledge) (label : StaticLabel) → KnowledgeHasTables k (knowledge_of l.initial.known) → HasTable label l.guard
    → KnowledgeHasTables (fold add_guarded k (atom_events (stands_of l.stands) label (map atom_of (take l.atom-index l.atoms)))) (knowledge_of l.known)
