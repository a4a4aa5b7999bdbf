use Rattle.std.proofs.Common.{sym, ◌∙◌, arith}
use Rattle.dy_syntax.specs.Meaning.{recipe_of}
use Rattle.dy_syntax.specs.MirrorMeaning.{least_of}
use Rattle.dy_syntax.specs.Parts.{parts_of_recipe}
use Rattle.dy_syntax.proofs.Noted.{parts_more}
use Rattle.dy_syntax.proofs.Rows.{parts_of_recipes_listed}
use Rattle.dy_syntax.proofs.parts.recipes.+note_recipe.Goals as goal

pub note_recipes-loop-recipe-preserved : goal.note_recipes-loop-recipe-preserved
note_recipes-loop-recipe-preserved t c =
    rw c.note_recipe.ensures
    (sym (parts_more (parts_of_recipe c.args.round) recipe_of _ _ c.deref-recipe-items.result.now c.loop-recipe.recipe-index c.recipe-item.result (least_of c.loop-recipe.least) (omega arith) c.recipe-item.is)
    ∙ c.loop-recipe.invariant)

pub note_recipe-returns-in-Tuple : goal.note_recipe-returns-in-Tuple
note_recipe-returns-in-Tuple t c = rw (c.in-Tuple.is, parts_of_recipes_listed c.args.round c.in-Tuple.args) c.note_recipes.ensures
