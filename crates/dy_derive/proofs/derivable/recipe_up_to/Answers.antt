use Rattle.std.proofs.Common.{subst, sym, ap, ◌∙◌, List, map, IfOk}
use Rattle.std.proofs.lemmas.List.{take-map}
use Rattle.dy_recipe.specs.Moves.{Move}
use Rattle.dy_recipe.specs.Meaning.{move_of, recipe_of}
use Rattle.dy_recipe.specs.Trimming.{KeepsValue}
use Rattle.dy_derive.proofs.derivable.recipe_up_to.Goals as goal

pub returns-clause-value : goal.returns-clause-value
returns-clause-value c =
    subst (λ (whole : List Move). IfOk c.trim.result (λ made. KeepsValue whole (recipe_of made)))
    (ap (map move_of) (c.from_vec.ensures ∙ c.truncate.ensures.items) ∙ sym (take-map move_of c.args.number c.args.moves.items)) c.trim.ensures.value
