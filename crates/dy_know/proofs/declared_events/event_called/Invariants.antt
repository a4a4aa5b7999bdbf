use Rattle.std.proofs.Common.{◌≡◌, map, drop}
use Rattle.dy_syntax.specs.Meaning.{event_of}
use Rattle.dy_know.specs.MirrorEvents.{event_called}
use Rattle.dy_know.proofs.declared_events.event_called.Given as goal

-- the first one is not among the events so far
abbrev pub invariant-loop-event : goal.invariant-loop-event
invariant-loop-event l = event_called (map event_of (drop l.event-index l.events)) l.name ≡ event_called (map event_of l.events) l.name
