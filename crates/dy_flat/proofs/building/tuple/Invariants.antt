use Rattle.std.proofs.Common.{map, drop}
use Rattle.dy_flat.specs.Views.{tree_of}
use Rattle.dy_flat.proofs.TupleRuns.{Leads}
use Rattle.dy_flat.proofs.building.tuple.Given as goal

abbrev pub invariant-loop-field : goal.invariant-loop-field
invariant-loop-field l = Leads l.run (tree_of l.last) (map tree_of (drop l.field-index l.more)) l.tag (map tree_of l.fields)
