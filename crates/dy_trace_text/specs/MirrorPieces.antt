-- What of a label is still to be written. It mirrors the code: `LabelText` defines the text of a label.
use Rattle.std.specs.Prelude.{ℕ, ◌+◌, List, codes, reverse}
use Rattle.std.specs.List.{flat_map, sum_by}
use Rattle.dy_label.specs.Labels.{Label, Public, Nobody, One, Join, Meet}
use Rattle.dy_trace_text.specs.declared.label_text.Piece.{Piece}
use Rattle.dy_trace_text.specs.declared.label_text.Piece.TheVariants as code
use Rattle.dy_trace_text.specs.LabelText.{label_text}

abbrev pub piece_text : Piece → List ℕ
piece_text (code.Label label) = label_text label
piece_text code.Comma = codes ", "
piece_text code.Close = codes ")"

-- the text of the pieces, of which the last one is written next
abbrev pub pieces_text : List Piece → List ℕ
pieces_text pieces = flat_map piece_text (reverse pieces)

-- how many pieces a label becomes, itself counted
abbrev pub label_steps : Label → ℕ
label_steps Public = 1
label_steps Nobody = 1
label_steps (One reader) = 1
label_steps (Join first second) = (label_steps first + label_steps second) + 3
label_steps (Meet first second) = (label_steps first + label_steps second) + 3

abbrev pub piece_steps : Piece → ℕ
piece_steps (code.Label label) = label_steps label
piece_steps code.Comma = 1
piece_steps code.Close = 1

-- how many pieces are still to be taken
abbrev pub steps_left : List Piece → ℕ
steps_left pieces = sum_by piece_steps pieces
