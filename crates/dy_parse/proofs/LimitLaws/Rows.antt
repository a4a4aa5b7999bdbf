-- Expressions and recipes in a row, and the lists that the code keeps of them.
use Rattle.std.proofs.Common.{◌≡◌, ◌∙◌, ap, ℕ, map, ◌∷◌, ◌++◌, refl}
use Rattle.std.specs.List.{flat_map}
use Rattle.std.specs.declared.vec.Vec.{Vec}
use Rattle.std.specs.declared.alloc.Global.{Global}
use Rattle.dy_syntax.specs.declared.expressions.Expr as code
use Rattle.dy_syntax.specs.declared.expressions.Expr.TheBlock.{hidden-the_row-Expr-0}
use Rattle.dy_syntax.specs.declared.expressions.Tuple.{Tuple}
use Rattle.dy_syntax.specs.declared.recipes.RecipeText as recipe
use Rattle.dy_syntax.specs.declared.recipes.RecipeText.TheBlock.{hidden-the_row-RecipeText-0}
use Rattle.dy_syntax.specs.Expressions.{Exprs, Nil, Cons, list_of}
use Rattle.dy_syntax.specs.Recipes as r
use Rattle.dy_syntax.specs.Meaning.{expr_of, exprs_of, args_of, recipe_of, recipes_of}
use Rattle.dy_parse.specs.Limits.{inside_args, expr_within, inside_recipes, recipe_within, named_in, named_in_parts}

list_of-exprs_of : {n : _} (k : code.Row_of-Expr n) → list_of (exprs_of k) ≡ map expr_of (code.items-the_row-Expr n k)
list_of-exprs_of code.end_of-Expr = refl
list_of-exprs_of (code.more_of-Expr first rest) = ap (λ xs. expr_of first ∷ xs) (list_of-exprs_of rest)

-- the expressions of a tuple are those of its list
pub list_of_args : (tuple : Tuple) → list_of (args_of tuple) ≡ map expr_of tuple.args.items
list_of_args tuple = list_of-exprs_of (hidden-the_row-Expr-0 tuple.args) ∙ ap (map expr_of) (code.items_hidden-the_row-Expr-0 tuple.args)

inside_args-list_of : (room : ℕ) (exprs : Exprs) → inside_args room exprs ≡ flat_map (expr_within room) (list_of exprs)
inside_args-list_of room Nil = refl
inside_args-list_of room (Cons first rest) = ap (λ xs. expr_within room first ++ xs) (inside_args-list_of room rest)

pub inside_args_listed : (room : ℕ) (tuple : Tuple) → inside_args room (args_of tuple) ≡ flat_map (expr_within room) (map expr_of tuple.args.items)
inside_args_listed room tuple = inside_args-list_of room (args_of tuple) ∙ ap (flat_map (expr_within room)) (list_of_args tuple)

list_of-recipes_of : {n : _} (k : recipe.Row_of-RecipeText n) → r.list_of (recipes_of k) ≡ map recipe_of (recipe.items-the_row-RecipeText n k)
list_of-recipes_of recipe.end_of-RecipeText = refl
list_of-recipes_of (recipe.more_of-RecipeText first rest) = ap (λ xs. recipe_of first ∷ xs) (list_of-recipes_of rest)

-- the recipes of a row are those of its list
pub list_of_recipes : (args : Vec recipe.RecipeText Global) → r.list_of (recipes_of (hidden-the_row-RecipeText-0 args)) ≡ map recipe_of args.items
list_of_recipes args = list_of-recipes_of (hidden-the_row-RecipeText-0 args) ∙ ap (map recipe_of) (recipe.items_hidden-the_row-RecipeText-0 args)

inside_recipes-list_of : (room : ℕ) (rows : r.Recipes) → inside_recipes room rows ≡ flat_map (recipe_within room) (r.list_of rows)
inside_recipes-list_of room r.Nil = refl
inside_recipes-list_of room (r.Cons first rest) = ap (λ xs. recipe_within room first ++ xs) (inside_recipes-list_of room rest)

pub inside_recipes_listed : (room : ℕ) (args : Vec recipe.RecipeText Global)
    → inside_recipes room (recipes_of (hidden-the_row-RecipeText-0 args)) ≡ flat_map (recipe_within room) (map recipe_of args.items)
inside_recipes_listed room args = inside_recipes-list_of room (recipes_of (hidden-the_row-RecipeText-0 args)) ∙ ap (flat_map (recipe_within room)) (list_of_recipes args)

named-list_of : (rows : r.Recipes) → named_in_parts rows ≡ flat_map named_in (r.list_of rows)
named-list_of r.Nil = refl
named-list_of (r.Cons first rest) = ap (λ xs. named_in first ++ xs) (named-list_of rest)

pub named_in_listed : (args : Vec recipe.RecipeText Global)
    → named_in_parts (recipes_of (hidden-the_row-RecipeText-0 args)) ≡ flat_map named_in (map recipe_of args.items)
named_in_listed args = named-list_of (recipes_of (hidden-the_row-RecipeText-0 args)) ∙ ap (flat_map named_in) (list_of_recipes args)
