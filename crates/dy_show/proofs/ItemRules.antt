-- Each rule of an item makes a value whose canonical text has the tokens that the rule asks for.
use Rattle.std.proofs.Common.{◌≡◌, ℕ, Bool, true, false, cond, nat_lt, List, [], ◌∷◌, ◌++◌, map, Option, Some, None, refl, ap, ◌∙◌, append_assoc}
use Rattle.std.proofs.lemmas.List.{map-append, append-nil}
use Rattle.dy_syntax.specs.Names.{Quote}
use Rattle.dy_syntax.specs.Expressions as e
use Rattle.dy_syntax.specs.Recipes as r
use Rattle.dy_grammar.specs.declared.limits.TheConstants.{TOO_DEEP}
use Rattle.dy_grammar.specs.Parts.{Item, AnId, ANm, AKind, AUse, AnAtom, AFieldType, AField, ARow, AParam, APartner, APattern, ALabel, AStatement, ADecl, ARound, AStep, AnAction, AnInner, AnExpr, ARecipe, ItemValue, MaybeListed}
use Rattle.dy_grammar.specs.Grammar.{item_rules, text_or_tuple, text_or_recipes, word, one}
use Rattle.std.specs.Prelude.{option_map, codes}
use Rattle.dy_syntax.specs.SameFiles as b
use Rattle.dy_grammar.specs.Levels.{item_is_within}
use Rattle.dy_show.specs.Canonical as c
use Rattle.dy_show.specs.Shapes.{shape_of, part_shapes, shown_item, bare_item}
use Rattle.dy_show.proofs.Fitting.{AllFit, all_grown}

abbrev ItemFits : Item → Type 0
ItemFits x = AllFit (ItemValue x) (shown_item x) (bare_item x) (λ v. item_is_within x) (item_rules x)

-- a function of what is kept on a level
through : {A B : Type 0} (f : A → B) (within : Bool) (x y : A) → f (cond within x y) ≡ cond within (f x) (f y)
through f true x y = refl
through f false x y = refl

-- ---- rows and lists

more_exprs_of : (es : List e.Expr) → c.more_exprs (e.row_of es) ≡ c.more_to c.right_paren c.expr es
unfolding c.expr c.more_to
more_exprs_of [] = refl
more_exprs_of (x ∷ es) = ap (λ xs. c.comma ∷ (c.expr x ++ xs)) (more_exprs_of es)

exprs_of : (es : List e.Expr) → c.exprs (e.row_of es) ≡ c.comma_list c.right_paren c.expr es
unfolding c.expr c.comma_list
exprs_of [] = refl
exprs_of (x ∷ es) = ap (λ xs. c.expr x ++ xs) (more_exprs_of es)

bare_exprs_of : (es : List e.Expr) → b.bare_exprs (e.row_of es) ≡ e.row_of (map b.bare_expr es)
bare_exprs_of [] = refl
bare_exprs_of (x ∷ es) = ap (λ xs. e.Cons (b.bare_expr x) xs) (bare_exprs_of es)

more_recipes_of : (rs : List r.RecipeText) → c.more_recipes (r.row_of rs) ≡ c.more_to c.right_paren c.recipe rs
unfolding c.recipe c.more_to
more_recipes_of [] = refl
more_recipes_of (x ∷ rs) = ap (λ xs. c.comma ∷ (c.recipe x ++ xs)) (more_recipes_of rs)

recipes_of : (rs : List r.RecipeText) → c.recipes (r.row_of rs) ≡ c.comma_list c.right_paren c.recipe rs
unfolding c.recipe c.comma_list
recipes_of [] = refl
recipes_of (x ∷ rs) = ap (λ xs. c.recipe x ++ xs) (more_recipes_of rs)

bare_recipes_of : (rs : List r.RecipeText) → b.bare_recipes (r.row_of rs) ≡ r.row_of (map b.bare_recipe rs)
bare_recipes_of [] = refl
bare_recipes_of (x ∷ rs) = ap (λ xs. r.Cons (b.bare_recipe x) xs) (bare_recipes_of rs)

ids_fit : ItemFits AnId
unfolding item_rules
ids_fit = (
  record { plain = refl; shows = λ k vs fine. refl; respects = λ k vs. refl },
  tt,
)

nms_fit : ItemFits ANm
unfolding item_rules
nms_fit = (
  record { plain = refl; shows = λ k vs fine. refl; respects = λ k vs. refl },
  (
    record { plain = refl; shows = λ k vs fine. refl; respects = λ k vs. refl },
    tt,
  ),
)

kinds_fit : ItemFits AKind
unfolding item_rules
kinds_fit = (
  record { plain = refl; shows = λ k vs fine. refl; respects = λ k vs. refl },
  (
    record { plain = refl; shows = λ k vs fine. refl; respects = λ k vs. refl },
    (
      record { plain = refl; shows = λ k vs fine. refl; respects = λ k vs. refl },
      (
        record { plain = refl; shows = λ k vs fine. refl; respects = λ k vs. refl },
        (
          record { plain = refl; shows = λ k vs fine. refl; respects = λ k vs. refl },
          (
            record { plain = refl; shows = λ k vs fine. refl; respects = λ k vs. refl },
            tt,
          ),
        ),
      ),
    ),
  ),
)

uses_fit : ItemFits AUse
unfolding item_rules c.use_text
uses_fit = (
  record { plain = refl; shows = λ k vs fine. simp (map-append, append-nil, append_assoc); respects = λ k vs. refl },
  tt,
)

atoms_fit : ItemFits AnAtom
unfolding item_rules c.atom
atoms_fit = (
  record { plain = refl; shows = λ k vs fine. simp (map-append, append-nil, append_assoc); respects = λ k vs. refl },
  tt,
)

types_fit : ItemFits AFieldType
unfolding item_rules c.field_type
types_fit = (
  record { plain = refl; shows = λ k vs fine. refl; respects = λ k vs. refl },
  (
    record { plain = refl; shows = λ k vs fine. refl; respects = λ k vs. refl },
    (
      record { plain = refl; shows = λ k vs fine. simp (map-append, append-nil, append_assoc); respects = λ k vs. refl },
      (
        record { plain = refl; shows = λ k vs fine. simp (map-append, append-nil, append_assoc); respects = λ k vs. refl },
        (
          record { plain = refl; shows = λ k vs fine. simp (map-append, append-nil, append_assoc); respects = λ k vs. refl },
          (
            record { plain = refl; shows = λ k vs fine. simp (map-append, append-nil, append_assoc); respects = λ k vs. refl },
            (
              record { plain = refl; shows = λ k vs fine. simp (map-append, append-nil, append_assoc); respects = λ k vs. refl },
              tt,
            ),
          ),
        ),
      ),
    ),
  ),
)

fields_fit : ItemFits AField
unfolding item_rules c.field
fields_fit = (
  record { plain = refl; shows = λ k vs fine. simp (map-append, append-nil, append_assoc); respects = λ k vs. refl },
  tt,
)

rows_fit : ItemFits ARow
unfolding item_rules c.row
rows_fit = (
  record { plain = refl; shows = λ k vs fine. refl; respects = λ k vs. refl },
  tt,
)

params_fit : ItemFits AParam
unfolding item_rules c.param
params_fit = (
  record { plain = refl; shows = λ k vs fine. refl; respects = λ k vs. refl },
  (
    record { plain = refl; shows = λ k vs fine. refl; respects = λ k vs. refl },
    tt,
  ),
)

patterns_fit : ItemFits APattern
unfolding item_rules c.pattern_
patterns_fit = (
  record { plain = refl; shows = λ k vs fine. refl; respects = λ k vs. refl },
  (
    record { plain = refl; shows = λ k vs fine. simp (map-append, append-nil, append_assoc); respects = λ k vs. refl },
    (
      record { plain = refl; shows = λ k vs fine. refl; respects = λ k vs. refl },
      tt,
    ),
  ),
)

statements_fit : ItemFits AStatement
unfolding item_rules c.act c.seal c.opened_as
statements_fit = (
  record { plain = refl; shows = λ k vs fine. simp (map-append, append-nil, append_assoc); respects = λ k vs. refl },
  (
    record { plain = refl; shows = λ k vs fine. simp (map-append, append-nil, append_assoc); respects = λ k vs. refl },
    (
      record { plain = refl; shows = λ k vs fine. simp (map-append, append-nil, append_assoc); respects = λ k vs. refl },
      (
        record { plain = refl; shows = λ k vs fine. simp (map-append, append-nil, append_assoc); respects = λ k vs. refl },
        (
          record { plain = refl; shows = λ k vs fine. simp (map-append, append-nil, append_assoc); respects = λ k vs. refl },
          (
            record { plain = refl; shows = λ k vs fine. refl; respects = λ k vs. refl },
            (
              record { plain = refl; shows = λ k vs fine. simp (map-append, append-nil, append_assoc); respects = λ k vs. refl },
              (
                record { plain = refl; shows = λ k vs fine. simp (map-append, append-nil, append_assoc); respects = λ k vs. refl },
                (
                  record { plain = refl; shows = λ k vs fine. simp (map-append, append-nil, append_assoc); respects = λ k vs. refl },
                  (
                    record { plain = refl; shows = λ k vs fine. simp (map-append, append-nil, append_assoc); respects = λ k vs. refl },
                    (
                      record { plain = refl; shows = λ k vs fine. simp (map-append, append-nil, append_assoc); respects = λ k vs. refl },
                      (
                        record { plain = refl; shows = λ k vs fine. simp (map-append, append-nil, append_assoc); respects = λ k vs. refl },
                        (
                          record { plain = refl; shows = λ k vs fine. simp (map-append, append-nil, append_assoc); respects = λ k vs. refl },
                          (
                            record { plain = refl; shows = λ k vs fine. simp (map-append, append-nil, append_assoc); respects = λ k vs. refl },
                            tt,
                          ),
                        ),
                      ),
                    ),
                  ),
                ),
              ),
            ),
          ),
        ),
      ),
    ),
  ),
)

decls_fit : ItemFits ADecl
unfolding item_rules c.decl c.usage_decl c.case_decl c.event_decl c.state_decl c.handler
decls_fit = (
  record { plain = refl; shows = λ k vs fine. simp (map-append, append-nil, append_assoc); respects = λ k vs. refl },
  (
    record { plain = refl; shows = λ k vs fine. simp (map-append, append-nil, append_assoc); respects = λ k vs. refl },
    (
      record { plain = refl; shows = λ k vs fine. simp (map-append, append-nil, append_assoc); respects = λ k vs. refl },
      (
        record { plain = refl; shows = λ k vs fine. simp (map-append, append-nil, append_assoc); respects = λ k vs. refl },
        (
          record { plain = refl; shows = λ k vs fine. simp (map-append, append-nil, append_assoc); respects = λ k vs. refl },
          tt,
        ),
      ),
    ),
  ),
)

rounds_fit : ItemFits ARound
unfolding item_rules c.round
rounds_fit = (
  record { plain = refl; shows = λ k vs fine. simp (map-append, append-nil, append_assoc); respects = λ k vs. refl },
  tt,
)

steps_fit : ItemFits AStep
unfolding item_rules c.step
steps_fit = (
  record { plain = refl; shows = λ k vs fine. simp (map-append, append-nil, append_assoc); respects = λ k vs. refl },
  tt,
)

actions_fit : ItemFits AnAction
unfolding item_rules c.action
actions_fit = (
  record { plain = refl; shows = λ k vs fine. refl; respects = λ k vs. refl },
  (
    record { plain = refl; shows = λ k vs fine. refl; respects = λ k vs. refl },
    (
      record { plain = refl; shows = λ k vs fine. simp (map-append, append-nil, append_assoc); respects = λ k vs. refl },
      (
        record { plain = refl; shows = λ k vs fine. simp (map-append, append-nil, append_assoc); respects = λ k vs. refl },
        tt,
      ),
    ),
  ),
)

inners_fit : (level : ℕ) → ItemFits (AnInner level)
unfolding item_rules c.label
inners_fit level = (
  record { plain = refl; shows = λ k vs fine. rw fine (refl); respects = λ k vs. through b.bare_label (nat_lt level TOO_DEEP) _ _ },
  (
    record { plain = refl; shows = λ k vs fine. rw fine (refl); respects = λ k vs. through b.bare_label (nat_lt level TOO_DEEP) _ _ },
    (
      record { plain = refl; shows = λ k vs fine. rw fine (refl); respects = λ k vs. through b.bare_label (nat_lt level TOO_DEEP) _ _ },
      (
        record { plain = refl; shows = λ k vs fine. rw fine (refl); respects = λ k vs. through b.bare_label (nat_lt level TOO_DEEP) _ _ },
        (
          record { plain = refl; shows = λ k vs fine. rw fine (refl); respects = λ k vs. through b.bare_label (nat_lt level TOO_DEEP) _ _ },
          (
            record { plain = refl; shows = λ k vs fine. rw fine (refl); respects = λ k vs. through b.bare_label (nat_lt level TOO_DEEP) _ _ },
            (
              record { plain = refl; shows = λ k vs fine. rw fine (simp (map-append, append-nil, append_assoc)); respects = λ k vs. through b.bare_label (nat_lt level TOO_DEEP) _ _ },
              (
                record { plain = refl; shows = λ k vs fine. rw fine (simp (map-append, append-nil, append_assoc)); respects = λ k vs. through b.bare_label (nat_lt level TOO_DEEP) _ _ },
                (
                  record { plain = refl; shows = λ k vs fine. rw fine (refl); respects = λ k vs. through b.bare_label (nat_lt level TOO_DEEP) _ _ },
                  tt,
                ),
              ),
            ),
          ),
        ),
      ),
    ),
  ),
)

text_shows : (quote : Quote) (args : Option (List e.Expr)) → map shape_of (c.expr (text_or_tuple quote args))
    ≡ shape_of (c.text quote) ∷ (part_shapes (MaybeListed (AnExpr 1)) args ++ [])
unfolding c.expr
text_shows quote None = refl
text_shows quote (Some args) = simp (exprs_of, append-nil)

text_respects : (quote : Quote) (args : Option (List e.Expr)) → b.bare_expr (text_or_tuple quote args) ≡ text_or_tuple (b.bare_quote quote) (option_map (map b.bare_expr) args)
text_respects quote None = refl
text_respects quote (Some args) = ap (λ (xs : e.Exprs). e.Tuple (b.bare_quote quote) xs) (bare_exprs_of args)

exprs_fit : (level : ℕ) → ItemFits (AnExpr level)
unfolding item_rules c.expr c.seal
exprs_fit level = (
  record { plain = refl; shows = λ k vs fine. rw fine (refl); respects = λ k vs. through b.bare_expr (nat_lt level TOO_DEEP) _ _ },
  (
    record { plain = refl; shows = λ k vs fine. rw fine (simp (map-append, append-nil, append_assoc)); respects = λ k vs. through b.bare_expr (nat_lt level TOO_DEEP) _ _ },
    (
      record { plain = refl; shows = λ k vs fine. rw fine (simp (map-append, append-nil, append_assoc)); respects = λ k vs. through b.bare_expr (nat_lt level TOO_DEEP) _ _ },
      (
        record { plain = refl; shows = λ k vs fine. rw fine (simp (map-append, append-nil, append_assoc)); respects = λ k vs. through b.bare_expr (nat_lt level TOO_DEEP) _ _ },
        (
          record {
            plain = refl;
            shows = λ k vs fine. rw fine (simp (exprs_of, map-append, append-nil, append_assoc));
            respects = λ k vs. through b.bare_expr (nat_lt level TOO_DEEP) (e.Penc k vs.0 vs.1.0 vs.1.1.0 (e.row_of vs.1.1.1.0)) (e.Lit (record { text = []; line = k }))
                ∙ ap (λ (xs : e.Exprs). cond (nat_lt level TOO_DEEP) (e.Penc 0 (b.bare_nm vs.0) (b.bare_use vs.1.0) (b.bare_quote vs.1.1.0) xs) (e.Lit (record { text = []; line = 0 }))) (bare_exprs_of vs.1.1.1.0);
          },
          (
            record {
              plain = refl;
              shows = λ k vs fine. rw fine (simp (exprs_of, map-append, append-nil, append_assoc));
              respects = λ k vs. through b.bare_expr (nat_lt level TOO_DEEP) (e.Aead k vs.0 vs.1.0 vs.1.1.0 (e.row_of vs.1.1.1.0) vs.1.1.1.1.0) (e.Lit (record { text = []; line = k }))
                  ∙ ap (λ (xs : e.Exprs). cond (nat_lt level TOO_DEEP) (e.Aead 0 (b.bare_nm vs.0) (b.bare_use vs.1.0) (b.bare_quote vs.1.1.0) xs (b.bare_expr vs.1.1.1.1.0)) (e.Lit (record { text = []; line = 0 }))) (bare_exprs_of vs.1.1.1.0);
            },
            (
              record {
                plain = refl;
                shows = λ k vs fine. rw fine (simp (exprs_of, map-append, append-nil, append_assoc));
                respects = λ k vs. through b.bare_expr (nat_lt level TOO_DEEP) (e.Sign k vs.0 vs.1.0 vs.1.1.0 (e.row_of vs.1.1.1.0)) (e.Lit (record { text = []; line = k }))
                    ∙ ap (λ (xs : e.Exprs). cond (nat_lt level TOO_DEEP) (e.Sign 0 (b.bare_nm vs.0) (b.bare_use vs.1.0) (b.bare_quote vs.1.1.0) xs) (e.Lit (record { text = []; line = 0 }))) (bare_exprs_of vs.1.1.1.0);
              },
              (
                record {
                  plain = refl;
                  shows = λ k vs fine. rw fine (simp (exprs_of, map-append, append-nil, append_assoc));
                  respects = λ k vs. through b.bare_expr (nat_lt level TOO_DEEP) (e.Mac k vs.0 vs.1.0 vs.1.1.0 (e.row_of vs.1.1.1.0)) (e.Lit (record { text = []; line = k }))
                      ∙ ap (λ (xs : e.Exprs). cond (nat_lt level TOO_DEEP) (e.Mac 0 (b.bare_nm vs.0) (b.bare_use vs.1.0) (b.bare_quote vs.1.1.0) xs) (e.Lit (record { text = []; line = 0 }))) (bare_exprs_of vs.1.1.1.0);
                },
                (
                  record { plain = refl; shows = λ k vs fine. rw fine (simp (map-append, append-nil, append_assoc)); respects = λ k vs. through b.bare_expr (nat_lt level TOO_DEEP) _ _ },
                  (
                    record { plain = refl; shows = λ k vs fine. rw fine (simp (map-append, append-nil, append_assoc)); respects = λ k vs. through b.bare_expr (nat_lt level TOO_DEEP) _ _ },
                    (
                      record {
                        plain = refl;
                        shows = λ k vs fine. rw fine (text_shows k vs.0);
                        respects = λ k vs. through b.bare_expr (nat_lt level TOO_DEEP) (text_or_tuple k vs.0) (e.Lit (record { text = []; line = k.line }))
                            ∙ ap (λ (x : e.Expr). cond (nat_lt level TOO_DEEP) x (e.Lit (record { text = []; line = 0 }))) (text_respects k vs.0);
                      },
                      (
                        record { plain = refl; shows = λ k vs fine. rw fine (refl); respects = λ k vs. through b.bare_expr (nat_lt level TOO_DEEP) _ _ },
                        tt,
                      ),
                    ),
                  ),
                ),
              ),
            ),
          ),
        ),
      ),
    ),
  ),
)

parts_shows : (quote : Quote) (args : Option (List r.RecipeText)) → map shape_of (c.recipe (text_or_recipes quote args))
    ≡ shape_of (c.text quote) ∷ (part_shapes (MaybeListed (ARecipe 1)) args ++ [])
unfolding c.recipe
parts_shows quote None = refl
parts_shows quote (Some args) = simp (recipes_of, append-nil)

parts_respects : (quote : Quote) (args : Option (List r.RecipeText)) → b.bare_recipe (text_or_recipes quote args) ≡ text_or_recipes (b.bare_quote quote) (option_map (map b.bare_recipe) args)
parts_respects quote None = refl
parts_respects quote (Some args) = ap (λ (xs : r.Recipes). r.Tuple (b.bare_quote quote) xs) (bare_recipes_of args)

recipes_fit : (level : ℕ) → ItemFits (ARecipe level)
unfolding item_rules c.recipe
recipes_fit level = (
  record { plain = refl; shows = λ k vs fine. rw fine (refl); respects = λ k vs. through b.bare_recipe (nat_lt level TOO_DEEP) _ _ },
  (
    record { plain = refl; shows = λ k vs fine. rw fine (refl); respects = λ k vs. through b.bare_recipe (nat_lt level TOO_DEEP) _ _ },
    (
      record { plain = refl; shows = λ k vs fine. rw fine (refl); respects = λ k vs. through b.bare_recipe (nat_lt level TOO_DEEP) _ _ },
      (
        record { plain = refl; shows = λ k vs fine. rw fine (refl); respects = λ k vs. through b.bare_recipe (nat_lt level TOO_DEEP) _ _ },
        (
          record { plain = refl; shows = λ k vs fine. rw fine (refl); respects = λ k vs. through b.bare_recipe (nat_lt level TOO_DEEP) _ _ },
          (
            record { plain = refl; shows = λ k vs fine. rw fine (simp (map-append, append-nil, append_assoc)); respects = λ k vs. through b.bare_recipe (nat_lt level TOO_DEEP) _ _ },
            (
              record { plain = refl; shows = λ k vs fine. rw fine (simp (map-append, append-nil, append_assoc)); respects = λ k vs. through b.bare_recipe (nat_lt level TOO_DEEP) _ _ },
              (
                record { plain = refl; shows = λ k vs fine. rw fine (simp (map-append, append-nil, append_assoc)); respects = λ k vs. through b.bare_recipe (nat_lt level TOO_DEEP) _ _ },
                (
                  record { plain = refl; shows = λ k vs fine. rw fine (simp (map-append, append-nil, append_assoc)); respects = λ k vs. through b.bare_recipe (nat_lt level TOO_DEEP) _ _ },
                  (
                    record { plain = refl; shows = λ k vs fine. rw fine (simp (map-append, append-nil, append_assoc)); respects = λ k vs. through b.bare_recipe (nat_lt level TOO_DEEP) _ _ },
                    (
                      record { plain = refl; shows = λ k vs fine. rw fine (simp (map-append, append-nil, append_assoc)); respects = λ k vs. through b.bare_recipe (nat_lt level TOO_DEEP) _ _ },
                      (
                        record { plain = refl; shows = λ k vs fine. rw fine (simp (map-append, append-nil, append_assoc)); respects = λ k vs. through b.bare_recipe (nat_lt level TOO_DEEP) _ _ },
                        (
                          record { plain = refl; shows = λ k vs fine. rw fine (simp (map-append, append-nil, append_assoc)); respects = λ k vs. through b.bare_recipe (nat_lt level TOO_DEEP) _ _ },
                          (
                            record { plain = refl; shows = λ k vs fine. rw fine (simp (map-append, append-nil, append_assoc)); respects = λ k vs. through b.bare_recipe (nat_lt level TOO_DEEP) _ _ },
                            (
                              record { plain = refl; shows = λ k vs fine. rw fine (simp (map-append, append-nil, append_assoc)); respects = λ k vs. through b.bare_recipe (nat_lt level TOO_DEEP) _ _ },
                              (
                                record { plain = refl; shows = λ k vs fine. rw fine (simp (map-append, append-nil, append_assoc)); respects = λ k vs. through b.bare_recipe (nat_lt level TOO_DEEP) _ _ },
                                (
                                  record { plain = refl; shows = λ k vs fine. rw fine (simp (map-append, append-nil, append_assoc)); respects = λ k vs. through b.bare_recipe (nat_lt level TOO_DEEP) _ _ },
                                  (
                                    record { plain = refl; shows = λ k vs fine. rw fine (simp (map-append, append-nil, append_assoc)); respects = λ k vs. through b.bare_recipe (nat_lt level TOO_DEEP) _ _ },
                                    (
                                      record { plain = refl; shows = λ k vs fine. rw fine (simp (map-append, append-nil, append_assoc)); respects = λ k vs. through b.bare_recipe (nat_lt level TOO_DEEP) _ _ },
                                      (
                                        record { plain = refl; shows = λ k vs fine. rw fine (simp (map-append, append-nil, append_assoc)); respects = λ k vs. through b.bare_recipe (nat_lt level TOO_DEEP) _ _ },
                                        (
                                          record {
                                            plain = refl;
                                            shows = λ k vs fine. rw fine (parts_shows k vs.0);
                                            respects = λ k vs. through b.bare_recipe (nat_lt level TOO_DEEP) (text_or_recipes k vs.0) (r.Lit (record { text = []; line = k.line }))
                                                ∙ ap (λ (x : r.RecipeText). cond (nat_lt level TOO_DEEP) x (r.Lit (record { text = []; line = 0 }))) (parts_respects k vs.0);
                                          },
                                          tt,
                                        ),
                                      ),
                                    ),
                                  ),
                                ),
                              ),
                            ),
                          ),
                        ),
                      ),
                    ),
                  ),
                ),
              ),
            ),
          ),
        ),
      ),
    ),
  ),
)

-- `public` and then the labels of level 1
labels_fit : ItemFits ALabel
unfolding item_rules c.label
labels_fit = (record { plain = refl; shows = λ k vs fine. refl; respects = λ k vs. refl }, inners_fit 1)

-- an event and what follows it
partners_fit : ItemFits APartner
unfolding item_rules c.partner
partners_fit = all_grown (ItemValue AnAtom) (ItemValue APartner) (shown_item AnAtom) (bare_item AnAtom) (λ v. true) (shown_item APartner) (bare_item APartner) (λ v. true)
    (word (codes "unless") ∷ one (AnInner 1) ∷ []) (λ atom label. record { atom = atom; unless = label }) (record {
      plain = refl;
      fine = λ a ws e. refl;
      shows = λ a ws. simp (map-append, append-nil, append_assoc);
      respects = λ a ws. refl;
    }) (item_rules AnAtom) atoms_fit

pub items_fit : (x : Item) → ItemFits x
items_fit AnId = ids_fit
items_fit ANm = nms_fit
items_fit AKind = kinds_fit
items_fit AUse = uses_fit
items_fit AnAtom = atoms_fit
items_fit AFieldType = types_fit
items_fit AField = fields_fit
items_fit ARow = rows_fit
items_fit AParam = params_fit
items_fit APartner = partners_fit
items_fit APattern = patterns_fit
items_fit ALabel = labels_fit
items_fit AStatement = statements_fit
items_fit ADecl = decls_fit
items_fit ARound = rounds_fit
items_fit AStep = steps_fit
items_fit AnAction = actions_fit
items_fit (AnInner level) = inners_fit level
items_fit (AnExpr level) = exprs_fit level
items_fit (ARecipe level) = recipes_fit level
