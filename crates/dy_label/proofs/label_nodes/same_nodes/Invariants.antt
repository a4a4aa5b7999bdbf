use Rattle.std.proofs.Common.{◌≡◌, map, take}
use Rattle.dy_label.specs.MirrorNodes.{node_of}
use Rattle.dy_label.proofs.label_nodes.same_nodes.Given as goal

abbrev pub invariant-loop-i : goal.invariant-loop-i
invariant-loop-i l = map node_of (take l.i l.first) ≡ map node_of (take l.i l.second)
