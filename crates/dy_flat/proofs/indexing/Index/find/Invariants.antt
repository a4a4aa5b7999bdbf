use Rattle.std.proofs.Common.{length}
use Rattle.dy_flat.proofs.Indexed.{Passed}
use Rattle.dy_flat.proofs.indexing.Index.find.Given as goal

abbrev pub invariant-loop-at : goal.invariant-loop-at
invariant-loop-at g l = Passed g.C.Content.bytes l.kept l.wanted l.at (length l.self.links.items)

abbrev pub decreases-loop-at : goal.decreases-loop-at
decreases-loop-at g l = l.at
