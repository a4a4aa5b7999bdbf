-- Down to level MAX_LEVEL labels, expressions and recipes are built as they stand.
use Rattle.std.proofs.Common.{◌≡◌, ℕ, suc, ◌+◌, ◌<◌, Bool, List, [], ◌∷◌, length, ap, ◌∙◌}
use Rattle.std.specs.Prelude.{Err, if◌then◌else◌}
use Rattle.std.proofs.lemmas.Bool.{lt-ltb}
use Rattle.dy_lex.specs.Tokens.{Piece}
use Rattle.dy_syntax.specs.Labels as l
use Rattle.dy_syntax.specs.Labels.{LabelText}
use Rattle.dy_syntax.specs.Expressions as e
use Rattle.dy_syntax.specs.Expressions.{Expr}
use Rattle.dy_syntax.specs.Recipes as r
use Rattle.dy_syntax.specs.Recipes.{RecipeText}
use Rattle.dy_grammar.specs.declared.limits.TheConstants.{TOO_DEEP}
use Rattle.dy_grammar.specs.Parts.{Item, ItemValue, One, AnInner, AnExpr, ARecipe}
use Rattle.dy_grammar.specs.Grammar.{Rules, rules, item_rules, inner_rules_with, expr_rules_with, recipe_rules_with}
use Rattle.dy_grammar.specs.Mirrors.Machine.{at, choose, built, by_these}
use Rattle.dy_grammar.proofs.Stepwise.{at_is_by_rules}

at_is_by_these : (x : Item) (rs : Rules x) → item_rules x ≡ rs → (tokens : List Piece) → at (One x) tokens ≡ by_these (ItemValue x) rs tokens
unfolding rules
at_is_by_these x rs same [] = at_is_by_rules (One x) []
at_is_by_these x rs same (t ∷ rest) =
    at_is_by_rules (One x) (t ∷ rest) ∙ ap (λ (rs : Rules x). choose (ItemValue x) rs t rest (Err (suc (length rest)))) same

pub labels_are_built : (level : ℕ) (tokens : List Piece) → level < TOO_DEEP → at (One (AnInner level)) tokens ≡ by_these LabelText (inner_rules_with (level + 1) built) tokens
unfolding item_rules
labels_are_built level tokens above = at_is_by_these (AnInner level) (inner_rules_with (level + 1) built)
    (ap (λ (b : Bool). inner_rules_with (if b then level + 1 else TOO_DEEP) (λ line label. if b then label else l.Nobody line)) (lt-ltb level TOO_DEEP above)) tokens

pub exprs_are_built : (level : ℕ) (tokens : List Piece) → level < TOO_DEEP → at (One (AnExpr level)) tokens ≡ by_these Expr (expr_rules_with (level + 1) built) tokens
unfolding item_rules
exprs_are_built level tokens above = at_is_by_these (AnExpr level) (expr_rules_with (level + 1) built)
    (ap (λ (b : Bool). expr_rules_with (if b then level + 1 else TOO_DEEP) (λ line expr. if b then expr else e.Lit (record { text = []; line = line }))) (lt-ltb level TOO_DEEP above)) tokens

pub recipes_are_built : (level : ℕ) (tokens : List Piece) → level < TOO_DEEP → at (One (ARecipe level)) tokens ≡ by_these RecipeText (recipe_rules_with (level + 1) built) tokens
unfolding item_rules
recipes_are_built level tokens above = at_is_by_these (ARecipe level) (recipe_rules_with (level + 1) built)
    (ap (λ (b : Bool). recipe_rules_with (if b then level + 1 else TOO_DEEP) (λ line recipe. if b then recipe else r.Lit (record { text = []; line = line }))) (lt-ltb level TOO_DEEP above)) tokens
