use Rattle.std.proofs.Common.{[], map, Some, None}
use Rattle.dy_syntax.specs.Names.{Pke, Me}
use Rattle.dy_typing.specs.Demands.{Sealing, PartnerStands, StoreKeeps, StoreFits}
use Rattle.dy_check.specs.MirrorMembers.{fields_in, partners_in}
use Rattle.dy_check.specs.MirrorUnmet.{FindsUnmet}
use Rattle.dy_check.proofs.FirstUnmet.{found_here, found_later}
use Rattle.dy_check.proofs.conditions.stored.unmet_as_read.Goals as goal

-- any sealing, since the fields of a state are not sealed
any_sealing : Sealing
any_sealing = record { kind = Pke; key = Me 0; usage = record { usage = []; args = [] }; fields = [] }

pub returns-in-Some : goal.returns-in-Some
returns-in-Some c =
    let s = c.args.setting.now in
    let partners : FindsUnmet s c.args.known.now (map PartnerStands (partners_in s c.args.reading.now c.args.state.now.knows)) (Some c.in-Some.unmet) = rw (c.in-Some.is, c.as_slice-partners.ensures) at c.in_ok-unmet.ensures in
    found_here _ (found_here _ partners)

pub returns-in-Some-kept : goal.returns-in-Some-kept
returns-in-Some-kept c =
    let s = c.args.setting.now in
    let k = c.args.known.now in
    let partners : FindsUnmet s k (map PartnerStands (partners_in s c.args.reading.now c.args.state.now.knows)) None = rw (c.in_default.is, c.as_slice-partners.ensures) at c.in_ok-unmet.ensures in
    let kept : FindsUnmet s k (map StoreKeeps (fields_in s c.args.reading.now c.args.state.now.fields c.args.values.now)) (Some c.in-Some-kept.unmet) = rw (c.in-Some-kept.is, c.as_slice-fields.ensures) at (c.in_ok-kept.ensures any_sealing tt) in
    found_here _ (found_later partners kept)

pub returns : goal.returns
returns c =
    let s = c.args.setting.now in
    let k = c.args.known.now in
    let fields = fields_in s c.args.reading.now c.args.state.now.fields c.args.values.now in
    let partners : FindsUnmet s k (map PartnerStands (partners_in s c.args.reading.now c.args.state.now.knows)) None = rw (c.in_default.is, c.as_slice-partners.ensures) at c.in_ok-unmet.ensures in
    let kept : FindsUnmet s k (map StoreKeeps fields) None = rw (c.in_default-kept.is, c.as_slice-fields.ensures) at (c.in_ok-kept.ensures any_sealing tt) in
    let stored : FindsUnmet s k (map StoreFits fields) c.in_ok-stored.stored = rw c.as_slice-fields.ensures at (c.in_ok-stored.ensures any_sealing tt) in
    found_later (found_later partners kept) stored
