use Rattle.dy_flat.proofs.Lookups.{known_is, all_known, read_all-reverse}
use Rattle.dy_flat.proofs.runs.Run.reverse.Goals as goal

pub invariant_of-self : goal.invariant_of-self
invariant_of-self c =
    rw c.reverse.ensures.items (all_known _ _ (read_all-reverse c.self.inside.contents.contents c.self.inside.nodes.items _ c.self.invariant))

pub returns : goal.returns
returns c =
    rw (c.reverse.ensures.items, ← c.self.view_is) (known_is _ _ (read_all-reverse c.self.inside.contents.contents c.self.inside.nodes.items _ c.self.invariant))
