use Rattle.std.proofs.Common.{sym, ◌∙◌, arith}
use Rattle.dy_syntax.specs.Meaning.{recipe_of}
use Rattle.dy_parse.specs.Limits.{named_in}
use Rattle.dy_parse.specs.Mirrors.Limits.{meet_all, met_of}
use Rattle.dy_parse.proofs.LimitLaws.Folds.{fold_more, meet_all_append}
use Rattle.dy_parse.proofs.LimitLaws.Rows.{named_in_listed}
use Rattle.dy_parse.proofs.limits.principals.+recipe_names.Goals as goal

pub meet_recipes-loop-recipe-preserved : goal.meet_recipes-loop-recipe-preserved
meet_recipes-loop-recipe-preserved t c =
    rw c.in_ok-meet_recipe.ensures
    (sym (fold_more meet_all meet_all_append named_in recipe_of c.deref-recipe-items.result.now c.loop-recipe.recipe-index c.recipe-item.result (met_of c.loop-recipe.met) (omega arith) c.recipe-item.is)
    ∙ c.loop-recipe.invariant)

pub meet_recipe-returns-in-Tuple : goal.meet_recipe-returns-in-Tuple
meet_recipe-returns-in-Tuple t c = rw (c.in-Tuple.is, named_in_listed c.in-Tuple.args) c.meet_recipes.ensures
