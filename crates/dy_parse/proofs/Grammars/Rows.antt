-- Expressions and recipes in a row, and the list that the code keeps of them.
use Rattle.std.proofs.Common.{◌≡◌, ◌∙◌, ap, map, refl}
use Rattle.std.specs.declared.vec.Vec.{Vec}
use Rattle.std.specs.declared.alloc.Global.{Global}
use Rattle.dy_syntax.specs.declared.expressions.Expr as expr
use Rattle.dy_syntax.specs.declared.expressions.Expr.TheBlock.{hidden-the_row-Expr-0}
use Rattle.dy_syntax.specs.declared.recipes.RecipeText as recipe
use Rattle.dy_syntax.specs.declared.recipes.RecipeText.TheBlock.{hidden-the_row-RecipeText-0}
use Rattle.dy_syntax.specs.Expressions as e
use Rattle.dy_syntax.specs.Recipes as r
use Rattle.dy_syntax.specs.Meaning.{expr_of, exprs_of, recipe_of, recipes_of}

exprs_in_row : {n : _} (k : expr.Row_of-Expr n) → exprs_of k ≡ e.row_of (map expr_of (expr.items-the_row-Expr n k))
exprs_in_row expr.end_of-Expr = refl
exprs_in_row (expr.more_of-Expr first rest) = ap (λ xs. e.Cons (expr_of first) xs) (exprs_in_row rest)

pub row_of_args : (args : Vec expr.Expr Global) → exprs_of (hidden-the_row-Expr-0 args) ≡ e.row_of (map expr_of args.items)
row_of_args args = exprs_in_row (hidden-the_row-Expr-0 args) ∙ ap (λ xs. e.row_of (map expr_of xs)) (expr.items_hidden-the_row-Expr-0 args)

recipes_in_row : {n : _} (k : recipe.Row_of-RecipeText n) → recipes_of k ≡ r.row_of (map recipe_of (recipe.items-the_row-RecipeText n k))
recipes_in_row recipe.end_of-RecipeText = refl
recipes_in_row (recipe.more_of-RecipeText first rest) = ap (λ xs. r.Cons (recipe_of first) xs) (recipes_in_row rest)

pub row_of_recipes : (args : Vec recipe.RecipeText Global) → recipes_of (hidden-the_row-RecipeText-0 args) ≡ r.row_of (map recipe_of args.items)
row_of_recipes args = recipes_in_row (hidden-the_row-RecipeText-0 args) ∙ ap (λ xs. r.row_of (map recipe_of xs)) (recipe.items_hidden-the_row-RecipeText-0 args)
