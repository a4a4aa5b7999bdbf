-- The fields of a tuple, whose moves are added one after the other and paired at the end.
use Rattle.std.proofs.Common.{◌≡◌, ℕ, ◌+◌, ◌<◌, List, [], ◌∷◌, ◌++◌, length, map, drop, get_or, Option, Some, None, refl, ap, sym, ◌∙◌}
use Rattle.std.specs.Option.{option_map, option_and_then}
use Rattle.std.specs.declared.vec.Vec.{Vec}
use Rattle.std.specs.declared.alloc.Global.{Global}
use Rattle.std.proofs.lemmas.List.{drop_more}
use Rattle.dy_recipe.specs.Moves.{Move, Pair}
use Rattle.dy_entry.specs.Entries.{Entry}
use Rattle.dy_syntax.specs.declared.recipes.RecipeText as code
use Rattle.dy_syntax.specs.declared.recipes.RecipeText.TheBlock.{hidden-the_row-RecipeText-0}
use Rattle.dy_syntax.specs.Meaning.{recipe_of, recipes_of, row_of_recipes}
use Rattle.dy_syntax.specs.Plans.{Plan}
use Rattle.dy_syntax.specs.Recipes.{Recipes, Cons, row_of}
use Rattle.dy_plan.specs.Recipes.{with_two, add_recipe, add_pairs}
use Rattle.dy_plan.specs.MirrorRecipes.{pair_with, paired}

row_of-recipes_of : {n : _} (k : code.Row_of-RecipeText n) → recipes_of k ≡ row_of (map recipe_of (code.items-the_row-RecipeText n k))
row_of-recipes_of code.end_of-RecipeText = refl
row_of-recipes_of (code.more_of-RecipeText first rest) = ap (λ (xs : Recipes). Cons (recipe_of first) xs) (row_of-recipes_of rest)

-- the recipes of a tuple are those of its list
pub row_of_args : (args : Vec code.RecipeText Global) → row_of_recipes args ≡ row_of (map recipe_of args.items)
row_of_args args =
    row_of-recipes_of (hidden-the_row-RecipeText-0 args) ∙ ap (λ (xs : List code.RecipeText). row_of (map recipe_of xs)) (code.items_hidden-the_row-RecipeText-0 args)

-- pairing with one number more
pub paired-append : (lefts : List ℕ) (left : ℕ) (made : List Move) → paired (lefts ++ left ∷ []) made ≡ paired lefts (pair_with left made)
paired-append [] left made = refl
paired-append (first ∷ lefts) left made = ap (pair_with first) (paired-append lefts left made)

-- before any field there is nothing to pair
pub none_paired : (made : Option (List Move)) → option_map (paired []) made ≡ made
none_paired None = refl
none_paired (Some made) = refl

pairs_more : (lefts : List ℕ) (before : List Move) (made : Option (List Move))
    → option_map (paired (lefts ++ length before ∷ [])) made ≡ option_map (paired lefts) (option_map (with_two Pair before) made)
pairs_more lefts before None = refl
pairs_more lefts before (Some made) = ap Some (paired-append lefts (length before) made)

module _ (plan : Plan) (T : List Entry) (args : List code.RecipeText) (i : ℕ) (arg : code.RecipeText) (within : i < length args) (is : arg ≡ get_or args i arg) (lefts : List ℕ) (before : List Move) where
  abbrev fields : List code.RecipeText → List Move → Option (List Move)
  fields xs made = add_pairs plan T (row_of (map recipe_of xs)) made

  here : drop i args ≡ arg ∷ drop (i + 1) args
  here = drop_more args i arg within ∙ ap (λ (x : code.RecipeText). x ∷ drop (i + 1) args) (sym is)

  -- the moves of the next field are added
  pub field_added : (after : List Move) → add_recipe plan T (recipe_of arg) before ≡ Some after
      → option_map (paired (lefts ++ length before ∷ [])) (fields (drop (i + 1) args) after) ≡ option_map (paired lefts) (fields (drop i args) before)
  field_added after added =
      pairs_more lefts before (fields (drop (i + 1) args) after)
      ∙ ap (λ (o : Option (List Move)). option_map (paired lefts) (option_map (with_two Pair before) (option_and_then (fields (drop (i + 1) args)) o))) (sym added)
      ∙ ap (λ (xs : List code.RecipeText). option_map (paired lefts) (fields xs before)) (sym here)

  -- the next field has no moves
  pub field_lacks : add_recipe plan T (recipe_of arg) before ≡ None → option_map (paired lefts) (fields (drop i args) before) ≡ None
  field_lacks lacks =
      ap (λ (xs : List code.RecipeText). option_map (paired lefts) (fields xs before)) here
      ∙ ap (λ (o : Option (List Move)). option_map (paired lefts) (option_map (with_two Pair before) (option_and_then (fields (drop (i + 1) args)) o))) lacks
