use Rattle.dy_flat.proofs.Lookups.{all_known, read_all-grows, read_all-added, added_known}
use Rattle.dy_flat.proofs.runs.Run.push.Goals as goal

pub invariant_of-self : goal.invariant_of-self
invariant_of-self c = all_known _ _ (read_all-grows _ _ c.in_err-placed.ensures.kept _ _ c.self.invariant)

pub invariant_of-self-2 : goal.invariant_of-self-2
invariant_of-self-2 c =
    all_known _ _ (read_all-added _ _ c.in_ok-placed.ensures.kept _ _ _ _ _ _ c.add.ensures c.self.invariant c.in_ok-placed.ensures.node)

pub returns : goal.returns
returns c =
    rw (← c.self.view_is) (added_known c.add.result _ _ c.in_ok-placed.ensures.kept _ _ _ _ _ c.add.ensures c.self.invariant c.in_ok-placed.ensures.node)
