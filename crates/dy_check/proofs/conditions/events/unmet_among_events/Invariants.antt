use Rattle.std.proofs.Common.{map}
use Rattle.dy_typing.specs.Demands.{Sealing, EventStands}
use Rattle.dy_check.specs.declared.settings.Setting.{Setting}
use Rattle.dy_check.specs.MirrorMembers.{events_in}
use Rattle.dy_check.specs.MirrorUnmet.{IsSealerTable}
use Rattle.dy_check.proofs.FirstUnmet.{StillToFind}
use Rattle.dy_check.proofs.MembersLeft.{events_left}
use Rattle.dy_check.proofs.conditions.events.unmet_among_events.Given as goal

-- The events so far have happened.
abbrev pub invariant-loop-at : goal.invariant-loop-at
invariant-loop-at l =
    (setting : Setting) (sealing : Sealing) → IsSealerTable setting l.known sealing l.sealer
    → StillToFind setting l.known (map (EventStands sealing) (events_in l.reading l.atoms)) (events_left l.reading sealing l.at l.atoms)
