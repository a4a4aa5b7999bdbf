use Rattle.dy_syntax.proofs.SameParts.{row_same, row_other}
use Rattle.dy_syntax.proofs.sameness.recipes.+same_recipe.Goals as goal

pub same_row-returns-clause-same : goal.same_row-returns-clause-same
same_row-returns-clause-same t c is_same = row_same c.args.args.now c.args.others.now (c.same_recipes.ensures.same is_same)

pub same_row-returns-clause-other : goal.same_row-returns-clause-other
same_row-returns-clause-other t c is_other = row_other c.args.args.now c.args.others.now (c.same_recipes.ensures.other is_other)
