-- One piece more of a label.
use Rattle.std.proofs.Common.{◌≡◌, ◌+◌, List, [], ◌∷◌, ◌++◌, ap, arith}
use Rattle.std.specs.List.{flat_map}
use Rattle.std.proofs.lemmas.List.{reverse-append}
use Rattle.std.proofs.lemmas.List.Sums.{sum_by-append}
use Rattle.dy_trace_text.specs.declared.label_text.Piece.{Piece}
use Rattle.dy_trace_text.specs.MirrorPieces.{piece_text, pieces_text, piece_steps, steps_left}

pub push_text : (pieces : List Piece) (piece : Piece) → pieces_text (pieces ++ piece ∷ []) ≡ piece_text piece ++ pieces_text pieces
push_text pieces piece = ap (flat_map piece_text) (reverse-append pieces (piece ∷ []))

pub push_steps : (pieces : List Piece) (piece : Piece) → steps_left (pieces ++ piece ∷ []) ≡ piece_steps piece + steps_left pieces
push_steps pieces piece =
    let both : steps_left (pieces ++ piece ∷ []) ≡ steps_left pieces + steps_left (piece ∷ []) = sum_by-append piece_steps pieces (piece ∷ []) in
    let one : steps_left (piece ∷ []) ≡ piece_steps piece = omega arith in
    omega arith
