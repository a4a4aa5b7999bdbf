use Rattle.std.proofs.Common.{◌≡◌, ◌-◌, length}
use Rattle.dy_flat.specs.declared.indexing.TheConstants.{CLASSES}
use Rattle.dy_flat.specs.MirrorIndexes.{Indexes}
use Rattle.dy_flat.proofs.indexing.Index.catch_up.Given as goal

abbrev pub invariant-loop-self : goal.invariant-loop-self
invariant-loop-self g l = record {
  covers : Indexes g.C.Content.bytes l.kept l.self;
  classes : length l.self.lasts.items ≡ CLASSES;
}

abbrev pub decreases-loop-self : goal.decreases-loop-self
decreases-loop-self g l = length l.kept - length l.self.links.items
