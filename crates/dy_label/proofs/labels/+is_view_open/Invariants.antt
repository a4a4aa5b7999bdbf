use Rattle.std.proofs.Common.{◌≡◌, ◌≤◌, map}
use Rattle.dy_label.specs.Labels.{is_open}
use Rattle.dy_label.specs.LabelsMeaning.{place_of_corruption}
use Rattle.dy_label.proofs.LabelParts.{size}
use Rattle.dy_label.proofs.labels.+is_view_open.Given as goal

abbrev pub decreases-is_view_open : goal.decreases-is_view_open
decreases-is_view_open l = size l.label

-- the rest is open where the label is, and no larger
abbrev pub invariant-loop-reader : goal.invariant-loop-reader
invariant-loop-reader l = record {
  same : is_open (map place_of_corruption l.corruptions) l.rest ≡ is_open (map place_of_corruption l.corruptions) l.fn.label;
  smaller : size l.rest ≤ size l.fn.label;
}

abbrev pub decreases-loop-reader : goal.decreases-loop-reader
decreases-loop-reader l = size l.rest
