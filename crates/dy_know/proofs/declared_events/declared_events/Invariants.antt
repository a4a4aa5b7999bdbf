use Rattle.std.proofs.Common.{◌≡◌, map, take}
use Rattle.dy_syntax.specs.Meaning.{decl_of, event_of}
use Rattle.dy_know.specs.MirrorEvents.{events_in}
use Rattle.dy_know.proofs.declared_events.declared_events.Given as goal

-- the events of the declarations so far
abbrev pub invariant-loop-decl : goal.invariant-loop-decl
invariant-loop-decl l = map event_of l.events.items ≡ events_in (map decl_of (take l.decl-index l.decls))
