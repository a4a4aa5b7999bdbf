use Rattle.std.proofs.Common.{map, drop}
use Rattle.std.specs.List.{flat_map}
use Rattle.dy_check.specs.Meaning.{setting_of}
use Rattle.dy_check.specs.OperationsMeaning.{operation_of}
use Rattle.dy_check.specs.MirrorUnmet.{demands_on_operation}
use Rattle.dy_check.proofs.FirstUnmet.{StillToFind}
use Rattle.dy_check.proofs.conditions.each_operation.unmet_on_each.Given as goal

-- What is asked holds of the operations so far.
abbrev pub invariant-loop-operation : goal.invariant-loop-operation
invariant-loop-operation l =
    StillToFind l.setting l.known (flat_map (demands_on_operation l.asked (setting_of l.setting)) (map operation_of l.operations))
    (flat_map (demands_on_operation l.asked (setting_of l.setting)) (map operation_of (drop l.operation-index l.operations)))
