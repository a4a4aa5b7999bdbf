use Rattle.std.proofs.Common.{◌+◌, [], ◌∷◌, refl}
use Rattle.dy_typing.specs.Demands.{PartnerStands}
use Rattle.dy_check.specs.MirrorMembers.{owed_in}
use Rattle.dy_check.proofs.FirstUnmet.{still_later, still_here, still_none}
use Rattle.dy_check.proofs.MembersLeft.{partners_left, partners_step, partners_none}
use Rattle.dy_check.proofs.conditions.partners.unmet_among_partners.Goals as goal

pub loop-at-preserved : goal.loop-at-preserved
loop-at-preserved c =
    let s = c.args.setting.now in
    let r = c.args.reading.now in
    let at = c.loop-at.at in
    let partners = c.args.partners.now in
    let partner = c.index-partners-at.result in
    let demand = PartnerStands (owed_in s r (at + 1) partner) in
    let now = rw c.in_default.is at (c.unless_met.ensures s c.args.known.now demand (c.in_ok-met.ensures (at + 1)) refl refl) in
    still_later (demand ∷ []) (partners_left s r (at + 1) partners) (partners_step s r at partners partner c.loop-at-test.true c.index-partners-at.is) c.loop-at.invariant now

pub returns-in-Some : goal.returns-in-Some
returns-in-Some c =
    let s = c.args.setting.now in
    let r = c.args.reading.now in
    let at = c.loop-at.at in
    let partners = c.args.partners.now in
    let partner = c.index-partners-at.result in
    let demand = PartnerStands (owed_in s r (at + 1) partner) in
    let now = rw c.in-Some.is at (c.unless_met.ensures s c.args.known.now demand (c.in_ok-met.ensures (at + 1)) refl refl) in
    still_here (demand ∷ []) (partners_left s r (at + 1) partners) (partners_step s r at partners partner c.loop-at-test.true c.index-partners-at.is) c.loop-at.invariant now

pub returns : goal.returns
returns c = still_none (partners_none c.args.setting.now c.args.reading.now c.loop-at.at c.args.partners.now c.loop-at-test.false) c.loop-at.invariant
