use Rattle.std.proofs.Common.{map}
use Rattle.dy_typing.specs.Demands.{Sealing}
use Rattle.dy_check.specs.MirrorMembers.{fields_in}
use Rattle.dy_check.specs.MirrorUnmet.{HasSealer, demand_on_field}
use Rattle.dy_check.proofs.FirstUnmet.{StillToFind}
use Rattle.dy_check.proofs.MembersLeft.{fields_left}
use Rattle.dy_check.proofs.conditions.members.unmet_member.Given as goal

-- What is asked holds of the fields so far.
abbrev pub invariant-loop-at : goal.invariant-loop-at
invariant-loop-at l =
    (sealing : Sealing) → HasSealer l.setting l.known l.asked sealing
    → StillToFind l.setting l.known (map (demand_on_field l.asked sealing) (fields_in l.setting l.reading l.fields l.values)) (fields_left l.setting l.reading l.asked sealing l.at l.fields l.values)
