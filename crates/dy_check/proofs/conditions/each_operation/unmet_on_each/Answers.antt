use Rattle.std.proofs.Common.{◌+◌, map, drop}
use Rattle.std.specs.List.{flat_map}
use Rattle.dy_check.specs.Meaning.{setting_of}
use Rattle.dy_check.specs.OperationsMeaning.{operation_of}
use Rattle.dy_check.specs.MirrorUnmet.{demands_on_operation}
use Rattle.dy_check.proofs.FirstUnmet.{still_later, still_here, still_none}
use Rattle.dy_check.proofs.MembersLeft.{operations_step, operations_none}
use Rattle.dy_check.proofs.conditions.each_operation.unmet_on_each.Goals as goal

pub loop-operation-preserved : goal.loop-operation-preserved
loop-operation-preserved c =
    let demands = demands_on_operation c.args.asked (setting_of c.args.setting.now) in
    let operations = c.args.operations.now in
    let at = c.loop-operation.operation-index in
    let operation = c.operation-item.result in
    let now = rw c.in_default.is at c.in_ok-unmet.ensures in
    still_later (demands (operation_of operation)) (flat_map demands (map operation_of (drop (at + 1) operations)))
    (operations_step demands operation_of operations at operation c.loop-operation-test.true c.operation-item.is) c.loop-operation.invariant now

pub returns-in-Some : goal.returns-in-Some
returns-in-Some c =
    let demands = demands_on_operation c.args.asked (setting_of c.args.setting.now) in
    let operations = c.args.operations.now in
    let at = c.loop-operation.operation-index in
    let operation = c.operation-item.result in
    let now = rw c.in-Some.is at c.in_ok-unmet.ensures in
    still_here (demands (operation_of operation)) (flat_map demands (map operation_of (drop (at + 1) operations)))
    (operations_step demands operation_of operations at operation c.loop-operation-test.true c.operation-item.is) c.loop-operation.invariant now

pub returns : goal.returns
returns c =
    still_none (operations_none (demands_on_operation c.args.asked (setting_of c.args.setting.now)) operation_of c.args.operations.now c.loop-operation.operation-index c.loop-operation-test.false)
    c.loop-operation.invariant
