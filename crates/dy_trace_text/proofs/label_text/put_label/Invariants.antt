use Rattle.std.proofs.Common.{◌≡◌, ◌++◌}
use Rattle.dy_trace_text.specs.LabelText.{label_text}
use Rattle.dy_trace_text.specs.MirrorPieces.{pieces_text, steps_left}
use Rattle.dy_trace_text.proofs.label_text.put_label.Given as goal

-- what is written and what is still to be written give the text of the label
abbrev pub invariant-loop-piece : goal.invariant-loop-piece
invariant-loop-piece l = l.page ++ pieces_text l.pieces.items ≡ l.initial.page ++ label_text l.fn.label

abbrev pub decreases-loop-piece : goal.decreases-loop-piece
decreases-loop-piece l = steps_left l.pieces.items
