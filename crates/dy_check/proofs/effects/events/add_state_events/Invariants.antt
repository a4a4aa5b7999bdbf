use Rattle.std.proofs.Common.{map, take, fold}
use Rattle.dy_syntax.specs.Meaning.{partner_of}
use Rattle.dy_typing.specs.Knowledge.{Knowledge}
use Rattle.dy_typing.specs.Effects.{add_guarded}
use Rattle.dy_check.specs.Meaning.{knowledge_of, stands_of, setting_of, here_of}
use Rattle.dy_check.specs.MirrorEvents.{partner_events}
use Rattle.dy_check.specs.Tables.{KnowledgeHasTables}
use Rattle.dy_check.proofs.effects.events.add_state_events.Given as goal

-- the events so far are added
abbrev pub invariant-loop-partner : goal.invariant-loop-partner
invariant-loop-partner l =
    (k : Knowledge) → KnowledgeHasTables k (knowledge_of l.initial.known)
    → KnowledgeHasTables (fold add_guarded k (partner_events (setting_of l.setting) (stands_of l.stands) (here_of l.here) (map partner_of (take l.partner-index l.partners)))) (knowledge_of l.known)
