use Rattle.std.proofs.Common.{◌≡◌, ◌++◌, map, take}
use Rattle.std.specs.List.{flat_map}
use Rattle.dy_syntax.specs.Meaning.{expr_of}
use Rattle.dy_typing.specs.Demands.{operations_of_expr}
use Rattle.dy_check.specs.OperationsMeaning.{operation_of}
use Rattle.dy_check.proofs.operations.push_exprs.Given as goal

-- the operations of those so far are added
abbrev pub invariant-loop-expr : goal.invariant-loop-expr
invariant-loop-expr l =
    map operation_of l.operations ≡ map operation_of l.initial.operations ++ flat_map operations_of_expr (map expr_of (take l.expr-index l.exprs))
