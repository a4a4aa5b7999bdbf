-- Expressions in a row, and the list that the code keeps of them.
use Rattle.std.proofs.Common.{◌≡◌, ◌∙◌, ap, ℕ, List, map, [], ◌∷◌, ◌++◌, refl}
use Rattle.std.specs.List.{flat_map}
use Rattle.dy_syntax.specs.declared.expressions.Expr as code
use Rattle.dy_syntax.specs.declared.expressions.Expr.TheBlock.{hidden-the_row-Expr-0}
use Rattle.dy_syntax.specs.declared.expressions.Tuple.{Tuple}
use Rattle.dy_syntax.specs.declared.names.Nm.{Nm}
use Rattle.dy_syntax.specs.declared.recipes.RecipeText as recipe
use Rattle.dy_syntax.specs.declared.recipes.RecipeText.TheBlock.{hidden-the_row-RecipeText-0}
use Rattle.std.specs.declared.vec.Vec.{Vec}
use Rattle.std.specs.declared.alloc.Global.{Global}
use Rattle.dy_syntax.specs.Recipes as r
use Rattle.dy_syntax.specs.Rules.Plans.{fields_in, fields_in_row}
use Rattle.dy_syntax.specs.Expressions as e
use Rattle.dy_syntax.specs.Expressions.{Exprs, Nil, Cons, list_of}
use Rattle.dy_syntax.specs.Meaning.{nm_of, expr_of, exprs_of, args_of, recipe_of, recipes_of}
use Rattle.dy_syntax.specs.Parts.{parts_of_expr, parts_of_exprs, parts_of_recipe, parts_of_recipes}

list_of-exprs_of : {n : _} (k : code.Row_of-Expr n) → list_of (exprs_of k) ≡ map expr_of (code.items-the_row-Expr n k)
list_of-exprs_of code.end_of-Expr = refl
list_of-exprs_of (code.more_of-Expr first rest) = ap (λ xs. expr_of first ∷ xs) (list_of-exprs_of rest)

-- the expressions of a tuple are those of its list
pub list_of_args : (tuple : Tuple) → list_of (args_of tuple) ≡ map expr_of tuple.args.items
list_of_args tuple = list_of-exprs_of (hidden-the_row-Expr-0 tuple.args) ∙ ap (map expr_of) (code.items_hidden-the_row-Expr-0 tuple.args)

parts_of_exprs-list_of : (exprs : Exprs) → parts_of_exprs exprs ≡ flat_map parts_of_expr (list_of exprs)
parts_of_exprs-list_of Nil = refl
parts_of_exprs-list_of (Cons first rest) = ap (λ xs. parts_of_expr first ++ xs) (parts_of_exprs-list_of rest)

-- the parts of a tuple's expressions, as its list has them
pub parts_of_args : (tuple : Tuple) → parts_of_exprs (args_of tuple) ≡ flat_map parts_of_expr (map expr_of tuple.args.items)
parts_of_args tuple = parts_of_exprs-list_of (args_of tuple) ∙ ap (flat_map parts_of_expr) (list_of_args tuple)

-- names as expressions
pub names_as_exprs : (names : List Nm) → map e.Nm (map nm_of names) ≡ map (λ n. e.Nm (nm_of n)) names
names_as_exprs [] = refl
names_as_exprs (name ∷ names) = ap (λ xs. e.Nm (nm_of name) ∷ xs) (names_as_exprs names)

recipes_listed : {n : _} (k : recipe.Row_of-RecipeText n) → r.list_of (recipes_of k) ≡ map recipe_of (recipe.items-the_row-RecipeText n k)
recipes_listed recipe.end_of-RecipeText = refl
recipes_listed (recipe.more_of-RecipeText first rest) = ap (λ xs. recipe_of first ∷ xs) (recipes_listed rest)

-- the recipes of a row are those of its list
pub list_of_recipes : (args : Vec recipe.RecipeText Global) → r.list_of (recipes_of (hidden-the_row-RecipeText-0 args)) ≡ map recipe_of args.items
list_of_recipes args = recipes_listed (hidden-the_row-RecipeText-0 args) ∙ ap (map recipe_of) (recipe.items_hidden-the_row-RecipeText-0 args)

recipe_parts_in_row : (round : ℕ) (rows : r.Recipes) → parts_of_recipes round rows ≡ flat_map (parts_of_recipe round) (r.list_of rows)
recipe_parts_in_row round r.Nil = refl
recipe_parts_in_row round (r.Cons first rest) = ap (λ xs. parts_of_recipe round first ++ xs) (recipe_parts_in_row round rest)

-- the parts of recipes in a row, as their list has them
pub parts_of_recipes_listed : (round : ℕ) (args : Vec recipe.RecipeText Global)
    → parts_of_recipes round (recipes_of (hidden-the_row-RecipeText-0 args)) ≡ flat_map (parts_of_recipe round) (map recipe_of args.items)
parts_of_recipes_listed round args = recipe_parts_in_row round (recipes_of (hidden-the_row-RecipeText-0 args)) ∙ ap (flat_map (parts_of_recipe round)) (list_of_recipes args)

fields_in_list : (rows : r.Recipes) → fields_in_row rows ≡ flat_map fields_in (r.list_of rows)
fields_in_list r.Nil = refl
fields_in_list (r.Cons first rest) = ap (λ xs. fields_in first ++ xs) (fields_in_list rest)

-- the sessions of recipes in a row, as their list has them
pub fields_in_row_listed : (args : Vec recipe.RecipeText Global)
    → fields_in_row (recipes_of (hidden-the_row-RecipeText-0 args)) ≡ flat_map fields_in (map recipe_of args.items)
fields_in_row_listed args = fields_in_list (recipes_of (hidden-the_row-RecipeText-0 args)) ∙ ap (flat_map fields_in) (list_of_recipes args)
