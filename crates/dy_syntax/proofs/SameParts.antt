-- Lists of parts, each without its line numbers.
use Rattle.std.proofs.Common.{◌≡◌, ◌≢◌, ◌∙◌, ap, sym, refl, ℕ, ◌<◌, List, [], ◌∷◌, map, length, get_or}
use Rattle.std.proofs.lemmas.List.{get_or-map, length-map}
use Rattle.dy_syntax.specs.declared.expressions.Tuple.{Tuple}
use Rattle.dy_syntax.specs.declared.recipes.RecipeText.{RecipeText}
use Rattle.std.specs.declared.vec.Vec.{Vec}
use Rattle.std.specs.declared.alloc.Global.{Global}
use Rattle.dy_syntax.specs.Expressions as e
use Rattle.dy_syntax.specs.Recipes as r
use Rattle.dy_syntax.specs.Meaning.{expr_of, args_of, recipe_of, row_of_recipes}
use Rattle.dy_syntax.specs.SameFiles.{bare_expr, bare_exprs, bare_recipe, bare_recipes}
use Rattle.dy_syntax.proofs.Rows.{list_of_args, list_of_recipes}

at_place : {A B C : Type 0} (f : A → B) (g : B → C) (xs : List A) (i : ℕ) (x : A) (other : C)
    → i < length xs → x ≡ get_or xs i x → get_or (map g (map f xs)) i other ≡ g (f x)
at_place f g xs i x other in_xs x_is =
    let in_map : i < length (map f xs) = rw (length-map xs f) in_xs in
    get_or-map g (map f xs) i (f x) other in_map ∙ ap g (get_or-map f xs i x (f x) in_xs ∙ ap f (sym x_is))

-- lists that differ at one place
pub differs_there : {A B C : Type 0} (f : A → B) (g : B → C) (xs ys : List A) (i : ℕ) (x y : A)
    → i < length xs → i < length ys → x ≡ get_or xs i x → y ≡ get_or ys i y → g (f x) ≢ g (f y)
    → map g (map f xs) ≢ map g (map f ys)
differs_there f g xs ys i x y in_xs in_ys x_is y_is differs same =
    differs (sym (at_place f g xs i x (g (f x)) in_xs x_is) ∙ ap (λ zs. get_or zs i (g (f x))) same ∙ at_place f g ys i y (g (f x)) in_ys y_is)

both_lengths : {A B C : Type 0} (f : A → B) (g : B → C) (xs : List A) → length (map g (map f xs)) ≡ length xs
both_lengths f g xs = length-map (map f xs) g ∙ length-map xs f

-- lists of different lengths
pub other_length : {A B C : Type 0} (f : A → B) (g : B → C) (xs ys : List A)
    → length xs ≢ length ys → map g (map f xs) ≢ map g (map f ys)
other_length f g xs ys differs same = differs (sym (both_lengths f g xs) ∙ ap length same ∙ both_lengths f g ys)

listed : (exprs : e.Exprs) → bare_exprs exprs ≡ e.row_of (map bare_expr (e.list_of exprs))
listed e.Nil = refl
listed (e.Cons first rest) = ap (e.Cons (bare_expr first)) (listed rest)

bare_args : (tuple : Tuple) → bare_exprs (args_of tuple) ≡ e.row_of (map bare_expr (map expr_of tuple.args.items))
bare_args tuple = listed (args_of tuple) ∙ ap (λ xs. e.row_of (map bare_expr xs)) (list_of_args tuple)

listed_back : (xs : List e.Expr) → e.list_of (e.row_of xs) ≡ xs
listed_back [] = refl
listed_back (x ∷ xs) = ap (λ ys. x ∷ ys) (listed_back xs)

-- the expressions of two tuples are the same where their lists are
pub args_same : (a b : Tuple) → map bare_expr (map expr_of a.args.items) ≡ map bare_expr (map expr_of b.args.items)
    → bare_exprs (args_of a) ≡ bare_exprs (args_of b)
args_same a b same = bare_args a ∙ ap e.row_of same ∙ sym (bare_args b)

pub args_other : (a b : Tuple) → map bare_expr (map expr_of a.args.items) ≢ map bare_expr (map expr_of b.args.items)
    → bare_exprs (args_of a) ≢ bare_exprs (args_of b)
args_other a b differs same =
    differs (sym (listed_back _) ∙ ap e.list_of (sym (bare_args a) ∙ same ∙ bare_args b) ∙ listed_back _)

recipes_listed : (recipes : r.Recipes) → bare_recipes recipes ≡ r.row_of (map bare_recipe (r.list_of recipes))
recipes_listed r.Nil = refl
recipes_listed (r.Cons first rest) = ap (r.Cons (bare_recipe first)) (recipes_listed rest)

bare_row : (args : Vec RecipeText Global) → bare_recipes (row_of_recipes args) ≡ r.row_of (map bare_recipe (map recipe_of args.items))
bare_row args = recipes_listed (row_of_recipes args) ∙ ap (λ xs. r.row_of (map bare_recipe xs)) (list_of_recipes args)

recipes_listed_back : (xs : List r.RecipeText) → r.list_of (r.row_of xs) ≡ xs
recipes_listed_back [] = refl
recipes_listed_back (x ∷ xs) = ap (λ ys. x ∷ ys) (recipes_listed_back xs)

-- the recipes of two rows are the same where their lists are
pub row_same : (a b : Vec RecipeText Global) → map bare_recipe (map recipe_of a.items) ≡ map bare_recipe (map recipe_of b.items)
    → bare_recipes (row_of_recipes a) ≡ bare_recipes (row_of_recipes b)
row_same a b same = bare_row a ∙ ap r.row_of same ∙ sym (bare_row b)

pub row_other : (a b : Vec RecipeText Global) → map bare_recipe (map recipe_of a.items) ≢ map bare_recipe (map recipe_of b.items)
    → bare_recipes (row_of_recipes a) ≢ bare_recipes (row_of_recipes b)
row_other a b differs same =
    differs (sym (recipes_listed_back _) ∙ ap r.list_of (sym (bare_row a) ∙ same ∙ bare_row b) ∙ recipes_listed_back _)
