use Rattle.dy_check.proofs.effects.states.from_state.Goals as goal

pub returns : goal.returns
returns c = c.opening_by.ensures _ _ c.nobody_table-nobody.ensures c.nobody_table-nobody.ensures
