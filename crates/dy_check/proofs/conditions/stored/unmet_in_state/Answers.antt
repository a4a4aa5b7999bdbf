use Rattle.dy_check.proofs.conditions.stored.unmet_in_state.Goals as goal

pub returns : goal.returns
returns c = rw (c.as_slice-2.ensures, c.in_ok-stands.ensures, c.as_slice.ensures, c.in_ok-places.ensures) at c.in_ok-found.ensures
