-- Expressions and recipes in a row, and the lists that the code keeps of them.
use Rattle.std.proofs.Common.{◌≡◌, ◌∙◌, ap, map, ◌∷◌, ◌++◌, refl}
use Rattle.std.specs.declared.vec.Vec.{Vec}
use Rattle.std.specs.declared.alloc.Global.{Global}
use Rattle.dy_syntax.specs.declared.expressions.Expr as code
use Rattle.dy_syntax.specs.declared.expressions.Expr.TheBlock.{hidden-the_row-Expr-0}
use Rattle.dy_syntax.specs.declared.expressions.Tuple.{Tuple}
use Rattle.dy_syntax.specs.declared.recipes.RecipeText as recipe_code
use Rattle.dy_syntax.specs.declared.recipes.RecipeText.TheBlock.{hidden-the_row-RecipeText-0}
use Rattle.dy_syntax.specs.Expressions as e
use Rattle.dy_syntax.specs.Recipes as r
use Rattle.dy_syntax.specs.Meaning.{expr_of, exprs_of, args_of, recipe_of, recipes_of}
use Rattle.dy_show.specs.Canonical as c
use Rattle.dy_show.specs.Canonical.{comma_list, more_to, right_paren, comma}

list_of-exprs_of : {n : _} (k : code.Row_of-Expr n) → e.list_of (exprs_of k) ≡ map expr_of (code.items-the_row-Expr n k)
list_of-exprs_of code.end_of-Expr = refl
list_of-exprs_of (code.more_of-Expr first rest) = ap (λ xs. expr_of first ∷ xs) (list_of-exprs_of rest)

-- the expressions of a tuple are those of its list
list_of_args : (tuple : Tuple) → e.list_of (args_of tuple) ≡ map expr_of tuple.args.items
list_of_args tuple = list_of-exprs_of (hidden-the_row-Expr-0 tuple.args) ∙ ap (map expr_of) (code.items_hidden-the_row-Expr-0 tuple.args)

more_exprs_listed : (es : e.Exprs) → c.more_exprs es ≡ more_to right_paren c.expr (e.list_of es)
unfolding c.expr more_to
more_exprs_listed e.Nil = refl
more_exprs_listed (e.Cons first rest) = ap (λ xs. comma ∷ (c.expr first ++ xs)) (more_exprs_listed rest)

exprs_listed : (es : e.Exprs) → c.exprs es ≡ comma_list right_paren c.expr (e.list_of es)
unfolding c.expr comma_list
exprs_listed e.Nil = refl
exprs_listed (e.Cons first rest) = ap (λ xs. c.expr first ++ xs) (more_exprs_listed rest)

-- the fields of a tuple, as its list has them
pub fields_listed : (tuple : Tuple) → c.exprs (args_of tuple) ≡ comma_list right_paren c.expr (map expr_of tuple.args.items)
fields_listed tuple = exprs_listed (args_of tuple) ∙ ap (comma_list right_paren c.expr) (list_of_args tuple)

recipes_are : {n : _} (k : recipe_code.Row_of-RecipeText n) → r.list_of (recipes_of k) ≡ map recipe_of (recipe_code.items-the_row-RecipeText n k)
recipes_are recipe_code.end_of-RecipeText = refl
recipes_are (recipe_code.more_of-RecipeText first rest) = ap (λ xs. recipe_of first ∷ xs) (recipes_are rest)

-- the recipes of a row are those of its list
list_of_recipes : (args : Vec recipe_code.RecipeText Global) → r.list_of (recipes_of (hidden-the_row-RecipeText-0 args)) ≡ map recipe_of args.items
list_of_recipes args = recipes_are (hidden-the_row-RecipeText-0 args) ∙ ap (map recipe_of) (recipe_code.items_hidden-the_row-RecipeText-0 args)

more_recipes_listed : (rs : r.Recipes) → c.more_recipes rs ≡ more_to right_paren c.recipe (r.list_of rs)
unfolding c.recipe more_to
more_recipes_listed r.Nil = refl
more_recipes_listed (r.Cons first rest) = ap (λ xs. comma ∷ (c.recipe first ++ xs)) (more_recipes_listed rest)

recipes_listed : (rs : r.Recipes) → c.recipes rs ≡ comma_list right_paren c.recipe (r.list_of rs)
unfolding c.recipe comma_list
recipes_listed r.Nil = refl
recipes_listed (r.Cons first rest) = ap (λ xs. c.recipe first ++ xs) (more_recipes_listed rest)

-- the parts of a tuple, as its list has them
pub parts_listed : (args : Vec recipe_code.RecipeText Global)
    → c.recipes (recipes_of (hidden-the_row-RecipeText-0 args)) ≡ comma_list right_paren c.recipe (map recipe_of args.items)
parts_listed args = recipes_listed (recipes_of (hidden-the_row-RecipeText-0 args)) ∙ ap (comma_list right_paren c.recipe) (list_of_recipes args)
