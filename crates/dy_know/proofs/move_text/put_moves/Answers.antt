use Rattle.std.proofs.Common.{◌≡◌, ◌++◌, List, ℕ, codes, IfOk, ap, sym, subst, ◌∙◌}
use Rattle.std.specs.List.{join_by}
use Rattle.dy_recipe.specs.Meaning.{move_of}
use Rattle.dy_recipe.specs.declared.moves.Move.{Move}
use Rattle.dy_know.specs.MoveText.{move_text}
use Rattle.dy_know.proofs.Flattened.{join_by-map}
use Rattle.dy_know.proofs.move_text.put_moves.Goals as goal

pub returns : goal.returns
returns c =
    subst (λ (end : List ℕ). IfOk c.put_each.result (λ _. c.put_each.new.text.items ≡ c.args.text.now.items ++ end))
    (ap (join_by (λ (step : Move). move_text (move_of step)) (codes "; ")) c.as_slice.ensures ∙ sym (join_by-map move_text move_of (codes "; ") c.args.recipe.now.moves))
    c.put_each.ensures
