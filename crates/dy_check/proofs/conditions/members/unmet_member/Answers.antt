use Rattle.std.proofs.Common.{◌+◌, [], ◌∷◌, sym}
use Rattle.dy_check.specs.MirrorMembers.{fitted_in}
use Rattle.dy_check.specs.MirrorUnmet.{demand_on_field}
use Rattle.dy_check.proofs.FirstUnmet.{still_later, still_here, still_none}
use Rattle.dy_check.proofs.MembersLeft.{fields_left, fields_step, fields_none, values_none, number_on_field}
use Rattle.dy_check.proofs.conditions.members.unmet_member.Goals as goal

pub loop-at-preserved : goal.loop-at-preserved
loop-at-preserved c = λ sealing h.
    let s = c.args.setting.now in
    let r = c.args.reading.now in
    let asked = c.args.asked.now in
    let at = c.loop-at.at in
    let fields = c.args.fields.now in
    let values = c.args.values.now in
    let field = fitted_in s r (at + 1) c.index-fields-at.result c.index-values-at.result in
    let now = rw c.in_default.is at (c.unless_met.ensures s c.args.known.now (demand_on_field asked sealing field) (c.in_ok-met.ensures sealing (at + 1) h) (c.condition.ensures sealing field) (sym (number_on_field asked sealing field))) in
    still_later (demand_on_field asked sealing field ∷ []) (fields_left s r asked sealing (at + 1) fields values)
    (fields_step s r asked sealing at fields values c.index-fields-at.result c.index-values-at.result c.loop-at-test.true c.if-at-values.false c.index-fields-at.is c.index-values-at.is)
    (c.loop-at.invariant sealing h) now

pub returns-in-Some : goal.returns-in-Some
returns-in-Some c = λ sealing h.
    let s = c.args.setting.now in
    let r = c.args.reading.now in
    let asked = c.args.asked.now in
    let at = c.loop-at.at in
    let fields = c.args.fields.now in
    let values = c.args.values.now in
    let field = fitted_in s r (at + 1) c.index-fields-at.result c.index-values-at.result in
    let now = rw c.in-Some.is at (c.unless_met.ensures s c.args.known.now (demand_on_field asked sealing field) (c.in_ok-met.ensures sealing (at + 1) h) (c.condition.ensures sealing field) (sym (number_on_field asked sealing field))) in
    still_here (demand_on_field asked sealing field ∷ []) (fields_left s r asked sealing (at + 1) fields values)
    (fields_step s r asked sealing at fields values c.index-fields-at.result c.index-values-at.result c.loop-at-test.true c.if-at-values.false c.index-fields-at.is c.index-values-at.is)
    (c.loop-at.invariant sealing h) now

pub returns-then-at-values : goal.returns-then-at-values
returns-then-at-values c = λ sealing h.
    still_none (values_none c.args.setting.now c.args.reading.now c.args.asked.now sealing c.loop-at.at c.args.fields.now c.args.values.now c.if-at-values.true) (c.loop-at.invariant sealing h)

pub returns : goal.returns
returns c = λ sealing h.
    still_none (fields_none c.args.setting.now c.args.reading.now c.args.asked.now sealing c.loop-at.at c.args.fields.now c.args.values.now c.loop-at-test.false) (c.loop-at.invariant sealing h)
