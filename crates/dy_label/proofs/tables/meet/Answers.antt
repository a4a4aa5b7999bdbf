use Rattle.std.proofs.Common.{◌/◌, ◌%◌, slice_index, arith}
use Rattle.dy_label.proofs.RowBits.{is_set-and}
use Rattle.dy_label.proofs.tables.meet.Goals as goal

pub returns-clause-rows : goal.returns-clause-rows
returns-clause-rows c = λ row h. rw (c.loop-block.invariant.done (row / 64) (omega arith)) (is_set-and (slice_index c.args.first.now (row / 64)) (slice_index c.args.second.now (row / 64)) (row % 64))

pub returns-clause-labels : goal.returns-clause-labels
returns-clause-labels c = λ l m p q row h. let in_first = p row h in let in_second = q row h in let both = returns-clause-rows c row h in cc
