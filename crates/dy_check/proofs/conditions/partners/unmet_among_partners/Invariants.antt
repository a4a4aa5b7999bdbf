use Rattle.std.proofs.Common.{map}
use Rattle.dy_typing.specs.Demands.{PartnerStands}
use Rattle.dy_check.specs.MirrorMembers.{partners_in}
use Rattle.dy_check.proofs.FirstUnmet.{StillToFind}
use Rattle.dy_check.proofs.MembersLeft.{partners_left}
use Rattle.dy_check.proofs.conditions.partners.unmet_among_partners.Given as goal

-- The partners so far have happened.
abbrev pub invariant-loop-at : goal.invariant-loop-at
invariant-loop-at l = StillToFind l.setting l.known (map PartnerStands (partners_in l.setting l.reading l.partners)) (partners_left l.setting l.reading l.at l.partners)
