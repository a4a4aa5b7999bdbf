-- Where nothing in what a rule of an item makes is too deep, nothing in its parts is.
use Rattle.std.proofs.Common.{◌≡◌, ap, subst, refl, ℕ, ◌-◌, List, [], ◌∷◌, ◌++◌, Option, Some, None}
use Rattle.std.specs.List.{flat_map}
use Rattle.dy_syntax.specs.Names.{Quote}
use Rattle.dy_syntax.specs.Labels as l
use Rattle.dy_syntax.specs.Labels.{LabelText}
use Rattle.dy_syntax.specs.Expressions as e
use Rattle.dy_syntax.specs.Expressions.{Expr}
use Rattle.dy_syntax.specs.Recipes as r
use Rattle.dy_syntax.specs.Recipes.{RecipeText}
use Rattle.dy_grammar.specs.declared.limits.TheConstants.{TOO_DEEP}
use Rattle.dy_grammar.specs.Parts.{Item, AnId, ANm, AKind, AUse, AnAtom, AFieldType, AField, ARow, AParam, APartner, APattern, ALabel, AStatement, ADecl, ARound, AStep, AnAction, AnInner, AnExpr, ARecipe, ItemValue, MaybeListed}
use Rattle.dy_grammar.specs.Grammar.{item_rules, inner_rules, deeper, expr_at, text_or_tuple, recipe_at, text_or_recipes}
use Rattle.dy_parse.specs.Limits as limits
use Rattle.dy_parse.proofs.Depth.Depths.{NoneDeep, of_left, of_right, plain, plain_list, inside_kept, excess_of, excess_of_part, AllPass, all_with}

abbrev ItemPasses : Item → Type 0
ItemPasses x = AllPass (ItemValue x) (excess_of x) (item_rules x)

-- ---- labels

labels_pass : (level : ℕ) → ItemPasses (AnInner level)
unfolding item_rules
labels_pass level = (
  λ k vs free. tt,
  (
    λ k vs free. tt,
    (
      λ k vs free. tt,
      (
        λ k vs free. tt,
        (
          λ k vs free. tt,
          (
            λ k vs free. tt,
            (
              λ k vs free.
                  let inside = inside_kept LabelText limits.label_line limits.inside_label level (l.Join k vs.0 vs.1.0) (l.Nobody k) free in
                  (of_left _ _ inside, (of_right _ _ inside, tt)),
              (
                λ k vs free.
                    let inside = inside_kept LabelText limits.label_line limits.inside_label level (l.Meet k vs.0 vs.1.0) (l.Nobody k) free in
                    (of_left _ _ inside, (of_right _ _ inside, tt)),
                (
                  λ k vs free. tt,
                  tt,
                ),
              ),
            ),
          ),
        ),
      ),
    ),
  ),
)

label_passes : ItemPasses ALabel
unfolding item_rules
label_passes = (λ k vs free. tt, all_with LabelText (excess_of (AnInner 1)) (excess_of ALabel) (λ x free. of_right _ _ free) (inner_rules 1) (labels_pass 1))

-- ---- expressions

args_inside : (room : ℕ) (xs : List Expr) → limits.inside_args room (e.row_of xs) ≡ flat_map (limits.expr_within room) xs
args_inside room [] = refl
args_inside room (x ∷ xs) = ap (λ ys. limits.expr_within room x ++ ys) (args_inside room xs)

fields_free : (level : ℕ) (xs : List Expr) → NoneDeep (limits.inside_args (TOO_DEEP - deeper level) (e.row_of xs)) → NoneDeep (flat_map (excess_of (AnExpr (deeper level))) xs)
fields_free level xs free = subst NoneDeep (args_inside (TOO_DEEP - deeper level) xs) free

-- what stands inside an expression that is built
inside_expr : (level line : ℕ) (x : Expr) → NoneDeep (excess_of (AnExpr level) (expr_at level line x)) → NoneDeep (limits.inside_expr (TOO_DEEP - deeper level) x)
inside_expr level line x free = inside_kept Expr e.line_of limits.inside_expr level x (e.Lit (record { text = []; line = line })) free

text_passes : (level : ℕ) (quote : Quote) (args : Option (List Expr)) → NoneDeep (excess_of (AnExpr level) (expr_at level quote.line (text_or_tuple quote args)))
    → NoneDeep (excess_of_part (MaybeListed (AnExpr (deeper level))) args)
text_passes level quote None free = plain
text_passes level quote (Some args) free = fields_free level args (of_right _ _ (inside_expr level quote.line (e.Tuple quote (e.row_of args)) free))

exprs_pass : (level : ℕ) → ItemPasses (AnExpr level)
unfolding item_rules
exprs_pass level = (
  λ k vs free. tt,
  (
    λ k vs free.
        let inside = inside_expr level k (e.Pair k vs.0 vs.1.0) free in
        (of_left _ _ inside, (of_right _ _ inside, tt)),
    (
      λ k vs free. (plain, tt),
      (
        λ k vs free. (plain, tt),
        (
          λ k vs free.
              let inside = inside_expr level k (e.Penc k vs.0 vs.1.0 vs.1.1.0 (e.row_of vs.1.1.1.0)) free in
              (plain, (plain, (fields_free level vs.1.1.1.0 (of_right _ _ inside), tt))),
          (
            λ k vs free.
                let inside = inside_expr level k (e.Aead k vs.0 vs.1.0 vs.1.1.0 (e.row_of vs.1.1.1.0) vs.1.1.1.1.0) free in
                (plain, (plain, (fields_free level vs.1.1.1.0 (of_right _ _ (of_left _ _ inside)), (of_right _ _ inside, tt)))),
            (
              λ k vs free.
                  let inside = inside_expr level k (e.Sign k vs.0 vs.1.0 vs.1.1.0 (e.row_of vs.1.1.1.0)) free in
                  (plain, (plain, (fields_free level vs.1.1.1.0 (of_right _ _ inside), tt))),
              (
                λ k vs free.
                    let inside = inside_expr level k (e.Mac k vs.0 vs.1.0 vs.1.1.0 (e.row_of vs.1.1.1.0)) free in
                    (plain, (plain, (fields_free level vs.1.1.1.0 (of_right _ _ inside), tt))),
                (
                  λ k vs free. (plain, (inside_expr level k (e.Kdf k vs.0 vs.1.0 vs.1.1.0) free, tt)),
                  (
                    λ k vs free. (inside_expr level k (e.Hash k vs.0) free, tt),
                    (
                      λ k vs free. (text_passes level k vs.0 free, tt),
                      (
                        λ k vs free. tt,
                        tt,
                      ),
                    ),
                  ),
                ),
              ),
            ),
          ),
        ),
      ),
    ),
  ),
)

-- ---- recipes

recipes_inside : (room : ℕ) (xs : List RecipeText) → limits.inside_recipes room (r.row_of xs) ≡ flat_map (limits.recipe_within room) xs
recipes_inside room [] = refl
recipes_inside room (x ∷ xs) = ap (λ ys. limits.recipe_within room x ++ ys) (recipes_inside room xs)

-- what stands inside a recipe that is built
inside_recipe : (level line : ℕ) (x : RecipeText) → NoneDeep (excess_of (ARecipe level) (recipe_at level line x)) → NoneDeep (limits.inside_recipe (TOO_DEEP - deeper level) x)
inside_recipe level line x free = inside_kept RecipeText limits.recipe_line limits.inside_recipe level x (r.Lit (record { text = []; line = line })) free

parts_pass : (level : ℕ) (quote : Quote) (args : Option (List RecipeText)) → NoneDeep (excess_of (ARecipe level) (recipe_at level quote.line (text_or_recipes quote args)))
    → NoneDeep (excess_of_part (MaybeListed (ARecipe (deeper level))) args)
parts_pass level quote None free = plain
parts_pass level quote (Some args) free =
    subst NoneDeep (recipes_inside (TOO_DEEP - deeper level) args) (of_right _ _ (inside_recipe level quote.line (r.Tuple quote (r.row_of args)) free))

-- two parts of a recipe
two_free : (level : ℕ) (x y : RecipeText) → NoneDeep (limits.recipe_within (TOO_DEEP - deeper level) x ++ limits.recipe_within (TOO_DEEP - deeper level) y)
    → NoneDeep (excess_of (ARecipe (deeper level)) x) × (NoneDeep (excess_of (ARecipe (deeper level)) y) × Unit {0})
two_free level x y inside = (of_left _ _ inside, (of_right _ _ inside, tt))

recipes_pass : (level : ℕ) → ItemPasses (ARecipe level)
unfolding item_rules
recipes_pass level = (
  λ k vs free. tt,
  (
    λ k vs free. tt,
    (
      λ k vs free. tt,
      (
        λ k vs free. tt,
        (
          λ k vs free. tt,
          (
            λ k vs free. two_free level vs.0 vs.1.0 (inside_recipe level k (r.Pair k vs.0 vs.1.0) free),
            (
              λ k vs free. (inside_recipe level k (r.Pk k vs.0) free, tt),
              (
                λ k vs free. (inside_recipe level k (r.Vk k vs.0) free, tt),
                (
                  λ k vs free. two_free level vs.0 vs.1.0 (inside_recipe level k (r.Penc k vs.0 vs.1.0) free),
                  (
                    λ k vs free.
                        let inside = inside_recipe level k (r.Aead k vs.0 vs.1.0 vs.1.1.0) free in
                        (of_left _ _ (of_left _ _ inside), (of_right _ _ (of_left _ _ inside), (of_right _ _ inside, tt))),
                    (
                      λ k vs free. two_free level vs.0 vs.1.0 (inside_recipe level k (r.Sign k vs.0 vs.1.0) free),
                      (
                        λ k vs free. two_free level vs.0 vs.1.0 (inside_recipe level k (r.Mac k vs.0 vs.1.0) free),
                        (
                          λ k vs free. two_free level vs.0 vs.1.1.0 (inside_recipe level k (r.Kdf k vs.0 vs.1.0 vs.1.1.0) free),
                          (
                            λ k vs free. (inside_recipe level k (r.Hash k vs.0) free, tt),
                            (
                              λ k vs free. (inside_recipe level k (r.Fst k vs.0) free, tt),
                              (
                                λ k vs free. (inside_recipe level k (r.Snd k vs.0) free, tt),
                                (
                                  λ k vs free. two_free level vs.0 vs.1.0 (inside_recipe level k (r.Pdec k vs.0 vs.1.0) free),
                                  (
                                    λ k vs free. two_free level vs.0 vs.1.0 (inside_recipe level k (r.Adec k vs.0 vs.1.0) free),
                                    (
                                      λ k vs free. (inside_recipe level k (r.Ad k vs.0) free, tt),
                                      (
                                        λ k vs free. (inside_recipe level k (r.Body k vs.0) free, tt),
                                        (
                                          λ k vs free. (parts_pass level k vs.0 free, tt),
                                          tt,
                                        ),
                                      ),
                                    ),
                                  ),
                                ),
                              ),
                            ),
                          ),
                        ),
                      ),
                    ),
                  ),
                ),
              ),
            ),
          ),
        ),
      ),
    ),
  ),
)

-- ---- declarations

types_pass : ItemPasses AFieldType
unfolding item_rules
types_pass = (
  λ k vs free. tt,
  (
    λ k vs free. tt,
    (
      λ k vs free. (free, tt),
      (
        λ k vs free. (free, tt),
        (
          λ k vs free. (of_left _ _ free, (plain, tt)),
          (
            λ k vs free. (of_left _ _ free, (plain, tt)),
            (
              λ k vs free. (of_left _ _ free, (plain, tt)),
              tt,
            ),
          ),
        ),
      ),
    ),
  ),
)

decls_pass : ItemPasses ADecl
unfolding item_rules
decls_pass = (
  λ k vs free. (plain, (plain_list vs.1.1.0, (plain, tt))),
  (
    λ k vs free. (of_right _ _ (of_left _ _ free), (plain_list vs.1.1.1.0, tt)),
    (
      λ k vs free. (plain_list vs.1.0, (of_right _ _ (of_right _ _ free), tt)),
      (
        λ k vs free. (plain, (of_right _ _ (of_left _ _ free), (of_right _ _ (of_right _ _ free), tt))),
        (
          λ k vs free. (plain, (plain_list vs.1.1.0, (plain, (of_right _ _ free, tt)))),
          tt,
        ),
      ),
    ),
  ),
)

-- ---- statements

statements_pass : ItemPasses AStatement
unfolding item_rules
statements_pass = (
  λ k vs free. (plain, (of_right _ _ free, tt)),
  (
    λ k vs free. (free, tt),
    (
      λ k vs free. (plain, tt),
      (
        λ k vs free. (free, tt),
        (
          λ k vs free. (of_right _ _ free, tt),
          (
            λ k vs free. tt,
            (
              λ k vs free. (plain, tt),
              (
                λ k vs free. (plain_list vs.1.0, tt),
                (
                  λ k vs free. (plain_list vs.1.1.0, tt),
                  (
                    λ k vs free. (plain, (plain_list vs.1.1.1.1.0, (of_right _ _ free, tt))),
                    (
                      λ k vs free. (plain, (plain_list vs.1.1.1.1.0, tt)),
                      (
                        λ k vs free. (plain, (plain_list vs.1.1.1.1.0, tt)),
                        (
                          λ k vs free. (plain, (plain_list vs.1.1.1.1.0, tt)),
                          (
                            λ k vs free. (plain, (plain, tt)),
                            tt,
                          ),
                        ),
                      ),
                    ),
                  ),
                ),
              ),
            ),
          ),
        ),
      ),
    ),
  ),
)

-- ---- all items

pub items_pass : (x : Item) → ItemPasses x
unfolding item_rules
items_pass AnId = (λ k vs free. tt, tt)
items_pass ANm = (λ k vs free. tt, (λ k vs free. tt, tt))
items_pass AKind = (λ k vs free. tt, (λ k vs free. tt, (λ k vs free. tt, (λ k vs free. tt, (λ k vs free. tt, (λ k vs free. tt, tt))))))
items_pass AUse = (λ k vs free. (plain_list vs.0, tt), tt)
items_pass AnAtom = (λ k vs free. (plain_list vs.0, tt), tt)
items_pass AFieldType = types_pass
items_pass AField = (λ k vs free. (free, tt), tt)
items_pass ARow = (λ k vs free. (plain, tt), tt)
items_pass AParam = (λ k vs free. tt, (λ k vs free. tt, tt))
items_pass APartner = (λ k vs free. (plain_list vs.0, (of_right _ _ (of_right _ _ free), tt)), tt)
items_pass APattern = (λ k vs free. tt, (λ k vs free. (plain, tt), (λ k vs free. tt, tt)))
items_pass ALabel = label_passes
items_pass AStatement = statements_pass
items_pass ADecl = decls_pass
items_pass ARound = (λ k vs free. (free, tt), tt)
items_pass AStep = (λ k vs free. (free, tt), tt)
items_pass AnAction = (λ k vs free. tt, (λ k vs free. tt, (λ k vs free. (free, tt), (λ k vs free. (plain_list vs.1.0, (plain, tt)), tt))))
items_pass (AnInner level) = labels_pass level
items_pass (AnExpr level) = exprs_pass level
items_pass (ARecipe level) = recipes_pass level
