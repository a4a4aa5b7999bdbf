use Rattle.dy_label.proofs.StateOrder.{not_before_itself, before_through, one_is_before}
use Rattle.dy_label.proofs.state_order.states_are_in_one_order.Goals as goal

pub returns-clause-itself : goal.returns-clause-itself
returns-clause-itself c = not_before_itself

pub returns-clause-through : goal.returns-clause-through
returns-clause-through c = before_through

pub returns-clause-total : goal.returns-clause-total
returns-clause-total c = one_is_before
