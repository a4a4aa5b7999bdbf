use Rattle.std.proofs.Common.{sym, ◌∙◌, map, arith}
use Rattle.dy_syntax.specs.Meaning.{recipe_of}
use Rattle.dy_parse.specs.Limits.{counts_fields, recipe_line, recipe_within}
use Rattle.dy_parse.specs.Mirrors.Limits.{first_of, note_all}
use Rattle.dy_parse.proofs.LimitLaws.Folds.{fold_more, note_all_append}
use Rattle.dy_parse.proofs.LimitLaws.Rows.{list_of_recipes, inside_recipes_listed}
use Rattle.dy_parse.proofs.limits.recipes.+recipe_limits.Goals as goal

pub note_row-loop-recipe-preserved : goal.note_row-loop-recipe-preserved
note_row-loop-recipe-preserved t c =
    rw c.note_recipe.ensures
    (sym (fold_more note_all note_all_append (recipe_within c.args.room) recipe_of c.args.recipes.now c.loop-recipe.recipe-index c.recipe-item.result (first_of c.loop-recipe.first) (omega arith) c.recipe-item.is)
    ∙ c.loop-recipe.invariant)

pub note_inside-returns-in-Tuple : goal.note_inside-returns-in-Tuple
note_inside-returns-in-Tuple t c =
    let m = c.in-Tuple in
    rw (m.is, list_of_recipes m.args, inside_recipes_listed c.args.room m.args, note_all_append (counts_fields recipe_line (map recipe_of m.args.items)))
    (rw (← c.as_slice.ensures.value, ← c.note_fields.ensures) (rw (c.as_slice.ensures.value, ← c.as_slice-in-Tuple.ensures.value) c.note_row.ensures))
