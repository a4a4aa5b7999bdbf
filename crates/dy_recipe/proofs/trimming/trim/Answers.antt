use Rattle.std.proofs.Common.{List, [], map, ap, subst, sym, ◌∙◌}
use Rattle.dy_recipe.specs.Moves.{Move}
use Rattle.dy_recipe.specs.declared.moves.Move as code
use Rattle.dy_recipe.specs.Meaning.{move_of}
use Rattle.dy_recipe.specs.Values.{recipe_value}
use Rattle.dy_recipe.specs.Trimming.{EachIsNeeded, IsTrimmed}
use Rattle.dy_recipe.specs.MirrorTrimming.{kept_moves}
use Rattle.dy_recipe.proofs.TrimmedValues.{value_kept}
use Rattle.dy_recipe.proofs.TrimmedNeeds.{each_is_needed}
use Rattle.dy_recipe.proofs.TrimmedMoves.{is_trimmed}
use Rattle.dy_recipe.proofs.trimming.trim.Goals as goal

pub returns-clause-value : goal.returns-clause-value
returns-clause-value c = λ leaves value is.
    let moves = map move_of c.as_slice-moves.result.now in
    let marks = c.in_ok-marks.marks.items in
    ap (recipe_value leaves) (c.in_ok-kept_moves.ensures ∙ ap (kept_moves [] [] moves) c.deref.ensures.value)
    ∙ value_kept moves marks c.in_ok-marks.ensures leaves value (ap (λ xs. recipe_value leaves (map move_of xs)) c.as_slice-moves.ensures ∙ is)

pub returns-clause-needed : goal.returns-clause-needed
returns-clause-needed c =
    let moves = map move_of c.as_slice-moves.result.now in
    let marks = c.in_ok-marks.marks.items in
    let Needed : List Move → Type 0 = λ made. EachIsNeeded made in
    subst Needed (sym (c.in_ok-kept_moves.ensures ∙ ap (kept_moves [] [] moves) c.deref.ensures.value)) (each_is_needed moves marks c.in_ok-marks.ensures)

pub returns-clause-moves : goal.returns-clause-moves
returns-clause-moves c =
    let moves = map move_of c.as_slice-moves.result.now in
    let marks = c.in_ok-marks.marks.items in
    let trimmed = kept_moves [] [] moves marks in
    let Whole : List code.Move → Type 0 = λ xs. IsTrimmed (map move_of xs) trimmed in
    let Trimmed : List Move → Type 0 = λ made. IsTrimmed (map move_of c.args.recipe.now.moves) made in
    subst Trimmed (sym (c.in_ok-kept_moves.ensures ∙ ap (kept_moves [] [] moves) c.deref.ensures.value))
    (subst Whole c.as_slice-moves.ensures (is_trimmed moves marks c.in_ok-marks.ensures))
