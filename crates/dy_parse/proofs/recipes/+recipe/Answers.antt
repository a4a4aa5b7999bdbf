use Rattle.std.proofs.Common.{◌≡◌, ◌+◌, List, [], ◌∷◌, ◌++◌, None, map, refl, sym, ◌∙◌, ap, subst, rules}
use Rattle.std.specs.Prelude.{codes, Result}
use Rattle.std.proofs.lemmas.List.{map_push}
use Rattle.std.proofs.lemmas.Result.{err_from_is_err_and}
use Rattle.dy_lex.specs.Tokens.{Piece, piece_of}
use Rattle.dy_syntax.specs.declared.recipes.RecipeText as code
use Rattle.dy_syntax.specs.Recipes as r
use Rattle.dy_syntax.specs.Meaning.{quote_of, recipe_of}
use Rattle.dy_grammar.specs.Terminals.{AText}
use Rattle.dy_grammar.specs.Grammar as table
use Rattle.dy_grammar.specs.Mirrors.Machine.{Reads, after_first, built, by_these}
use Rattle.dy_parse.specs.declared.cursor.Fault.{Fault}
use Rattle.dy_parse.specs.Mirrors.Gives.{Gives}
use Rattle.dy_grammar.specs.Parts.{ARecipe}
use Rattle.dy_parse.specs.declared.lists.Rest.TheVariants as rests
use Rattle.dy_parse.specs.Mirrors.Lists.{after_mark, rest_at, with_prefix}
use Rattle.dy_parse.proofs.Grammars.Lists.{ends_with, goes_on, fails_with, next_shorter}
use Rattle.dy_parse.proofs.Grammars.Choice.{this_rule, later_rules, kept_some}
use Rattle.dy_parse.proofs.recipes.+recipe.Goals as goal

pub more_recipes-returns-in-Some : goal.more_recipes-returns-in-Some
more_recipes-returns-in-Some t c =
    let total = with_prefix (map recipe_of c.args.prefix.items) (rest_at rests.Parentheses (ARecipe c.args.level) c.args.tokens.now) in
    ends_with rests.Parentheses (ARecipe c.args.level) total (map recipe_of c.items.found.items) c.items.left c.items.invariant c.in-Some.rest (search rules)

pub more_recipes-returns-in_err-item : goal.more_recipes-returns-in_err-item
more_recipes-returns-in_err-item t c =
    let total = with_prefix (map recipe_of c.args.prefix.items) (rest_at rests.Parentheses (ARecipe c.args.level) c.args.tokens.now) in
    let p = err_from_is_err_and c.from_residual.result c.from_residual.ensures.1 in
    let open_ : after_mark (codes ")") c.items.left ≡ None = search rules in
    rw (p.1, p.2) (fails_with rests.Parentheses (ARecipe c.args.level) total (map recipe_of c.items.found.items) c.items.left c.items.invariant c.in_err-item.field-0.0 open_ c.in_err-item.ensures)

pub more_recipes-items-smaller : goal.more_recipes-items-smaller
more_recipes-items-smaller t c = next_shorter rests.Parentheses (ARecipe c.args.level) c.items.left _ c.in_ok-item.ensures

pub more_recipes-items-preserved : goal.more_recipes-items-preserved
more_recipes-items-preserved t c =
    let total = with_prefix (map recipe_of c.args.prefix.items) (rest_at rests.Parentheses (ARecipe c.args.level) c.args.tokens.now) in
    let open_ : after_mark (codes ")") c.items.left ≡ None = search rules in
    let more : c.push.new.self.items ≡ c.items.found.items ++ c.in_ok-item.item ∷ [] = c.in_ok-push.ensures.items in
    let pushed : map recipe_of c.push.new.self.items ≡ map recipe_of c.items.found.items ++ recipe_of c.in_ok-item.item ∷ [] = ap (map recipe_of) more ∙ map_push recipe_of c.items.found.items c.in_ok-item.item in
    rw pushed (goes_on rests.Parentheses (ARecipe c.args.level) total (map recipe_of c.items.found.items) c.items.left c.items.invariant (recipe_of c.in_ok-item.item) c.in_ok-item.rest open_ c.in_ok-item.ensures)

-- ---- a rule

abbrev recipe_read : code.RecipeText × List Piece → r.RecipeText × List Piece
recipe_read x = (recipe_of x.0, x.1)

-- a recipe is read where it is read otherwise
gives_recipe : (result : Result (code.RecipeText × List Piece) Fault) (read other : Reads r.RecipeText) → read ≡ other → Gives recipe_read result other → Gives recipe_read result read
gives_recipe result read other same given = subst (λ (k : Reads r.RecipeText). Gives recipe_read result k) (sym same) given

pub built_recipe-returns-then-is_word-4 : goal.built_recipe-returns-then-is_word-4
built_recipe-returns-then-is_word-4 t c =
    let rs = table.recipe_rules_with (c.args.level + 1) built in
    let rule = table.nonce_rule built in
    gives_recipe c.nonce.result (by_these r.RecipeText rs c.args.tokens.now) (after_first rule c.in-Some.token.now.line c.in-Some.rest)
    (this_rule r.RecipeText 3 rs rule _ (piece_of c.in-Some.token.now) c.in-Some.rest c.args.tokens.now c.in-Some.ensures.some refl
    (sym c.is_word.ensures ∙ c.if-is_word.false, (sym c.is_word-2.ensures ∙ c.if-is_word-2.false, (sym c.is_word-3.ensures ∙ c.if-is_word-3.false, tt)))
    (sym c.is_word-4.ensures ∙ c.if-is_word-4.true))
    c.nonce.ensures

pub built_recipe-returns-then-is_word-5 : goal.built_recipe-returns-then-is_word-5
built_recipe-returns-then-is_word-5 t c =
    let rs = table.recipe_rules_with (c.args.level + 1) built in
    let rule = table.field_rule built in
    gives_recipe c.field.result (by_these r.RecipeText rs c.args.tokens.now) (after_first rule c.in-Some.token.now.line c.in-Some.rest)
    (this_rule r.RecipeText 4 rs rule _ (piece_of c.in-Some.token.now) c.in-Some.rest c.args.tokens.now c.in-Some.ensures.some refl
    (sym c.is_word.ensures ∙ c.if-is_word.false, (sym c.is_word-2.ensures ∙ c.if-is_word-2.false, (sym c.is_word-3.ensures ∙ c.if-is_word-3.false, (sym c.is_word-4.ensures ∙ c.if-is_word-4.false, tt))))
    (sym c.is_word-5.ensures ∙ c.if-is_word-5.true))
    c.field.ensures

pub built_recipe-returns : goal.built_recipe-returns
built_recipe-returns t c =
    let rs = table.recipe_rules_with (c.args.level + 1) built in
    gives_recipe c.making.result (by_these r.RecipeText rs c.args.tokens.now) (by_these r.RecipeText (table.making_rules (c.args.level + 1) built) c.args.tokens.now)
    (later_rules r.RecipeText 5 rs (piece_of c.in-Some.token.now) c.in-Some.rest c.args.tokens.now c.in-Some.ensures.some
    (sym c.is_word.ensures ∙ c.if-is_word.false, (sym c.is_word-2.ensures ∙ c.if-is_word-2.false, (sym c.is_word-3.ensures ∙ c.if-is_word-3.false, (sym c.is_word-4.ensures ∙ c.if-is_word-4.false, (sym c.is_word-5.ensures ∙ c.if-is_word-5.false, tt))))))
    c.making.ensures

pub making-returns-then-is_word-5 : goal.making-returns-then-is_word-5
making-returns-then-is_word-5 t c =
    let rs = table.making_rules (c.args.level + 1) built in
    let rule = table.sealed_rule (c.args.level + 1) built in
    gives_recipe c.aead.result (by_these r.RecipeText rs c.args.tokens.now) (after_first rule c.in-Some.token.now.line c.in-Some.rest)
    (this_rule r.RecipeText 4 rs rule _ (piece_of c.in-Some.token.now) c.in-Some.rest c.args.tokens.now c.in-Some.ensures.some refl
    (sym c.is_word.ensures ∙ c.if-is_word.false, (sym c.is_word-2.ensures ∙ c.if-is_word-2.false, (sym c.is_word-3.ensures ∙ c.if-is_word-3.false, (sym c.is_word-4.ensures ∙ c.if-is_word-4.false, tt))))
    (sym c.is_word-5.ensures ∙ c.if-is_word-5.true))
    c.aead.ensures

pub making-returns-then-is_word-6 : goal.making-returns-then-is_word-6
making-returns-then-is_word-6 t c =
    let rs = table.making_rules (c.args.level + 1) built in
    let rule = table.binary (c.args.level + 1) built (codes "sign") r.Sign in
    gives_recipe c.on_two-then-is_word-6.result (by_these r.RecipeText rs c.args.tokens.now) (after_first rule c.in-Some.token.now.line c.in-Some.rest)
    (this_rule r.RecipeText 5 rs rule _ (piece_of c.in-Some.token.now) c.in-Some.rest c.args.tokens.now c.in-Some.ensures.some refl
    (sym c.is_word.ensures ∙ c.if-is_word.false, (sym c.is_word-2.ensures ∙ c.if-is_word-2.false, (sym c.is_word-3.ensures ∙ c.if-is_word-3.false, (sym c.is_word-4.ensures ∙ c.if-is_word-4.false, (sym c.is_word-5.ensures ∙ c.if-is_word-5.false, tt)))))
    (sym c.is_word-6.ensures ∙ c.if-is_word-6.true))
    c.on_two-then-is_word-6.ensures

pub making-returns-then-is_word-7 : goal.making-returns-then-is_word-7
making-returns-then-is_word-7 t c =
    let rs = table.making_rules (c.args.level + 1) built in
    let rule = table.binary (c.args.level + 1) built (codes "mac") r.Mac in
    gives_recipe c.on_two-then-is_word-7.result (by_these r.RecipeText rs c.args.tokens.now) (after_first rule c.in-Some.token.now.line c.in-Some.rest)
    (this_rule r.RecipeText 6 rs rule _ (piece_of c.in-Some.token.now) c.in-Some.rest c.args.tokens.now c.in-Some.ensures.some refl
    (sym c.is_word.ensures ∙ c.if-is_word.false, (sym c.is_word-2.ensures ∙ c.if-is_word-2.false, (sym c.is_word-3.ensures ∙ c.if-is_word-3.false, (sym c.is_word-4.ensures ∙ c.if-is_word-4.false, (sym c.is_word-5.ensures ∙ c.if-is_word-5.false, (sym c.is_word-6.ensures ∙ c.if-is_word-6.false, tt))))))
    (sym c.is_word-7.ensures ∙ c.if-is_word-7.true))
    c.on_two-then-is_word-7.ensures

pub making-returns-then-is_word-8 : goal.making-returns-then-is_word-8
making-returns-then-is_word-8 t c =
    let rs = table.making_rules (c.args.level + 1) built in
    let rule = table.derived_rule (c.args.level + 1) built in
    gives_recipe c.kdf.result (by_these r.RecipeText rs c.args.tokens.now) (after_first rule c.in-Some.token.now.line c.in-Some.rest)
    (this_rule r.RecipeText 7 rs rule _ (piece_of c.in-Some.token.now) c.in-Some.rest c.args.tokens.now c.in-Some.ensures.some refl
    (sym c.is_word.ensures ∙ c.if-is_word.false, (sym c.is_word-2.ensures ∙ c.if-is_word-2.false, (sym c.is_word-3.ensures ∙ c.if-is_word-3.false, (sym c.is_word-4.ensures ∙ c.if-is_word-4.false, (sym c.is_word-5.ensures ∙ c.if-is_word-5.false, (sym c.is_word-6.ensures ∙ c.if-is_word-6.false, (sym c.is_word-7.ensures ∙ c.if-is_word-7.false, tt)))))))
    (sym c.is_word-8.ensures ∙ c.if-is_word-8.true))
    c.kdf.ensures

pub making-returns-then-is_word-9 : goal.making-returns-then-is_word-9
making-returns-then-is_word-9 t c =
    let rs = table.making_rules (c.args.level + 1) built in
    let rule = table.unary (c.args.level + 1) built (codes "hash") r.Hash in
    gives_recipe c.on_one-then-is_word-9.result (by_these r.RecipeText rs c.args.tokens.now) (after_first rule c.in-Some.token.now.line c.in-Some.rest)
    (this_rule r.RecipeText 8 rs rule _ (piece_of c.in-Some.token.now) c.in-Some.rest c.args.tokens.now c.in-Some.ensures.some refl
    (sym c.is_word.ensures ∙ c.if-is_word.false, (sym c.is_word-2.ensures ∙ c.if-is_word-2.false, (sym c.is_word-3.ensures ∙ c.if-is_word-3.false, (sym c.is_word-4.ensures ∙ c.if-is_word-4.false, (sym c.is_word-5.ensures ∙ c.if-is_word-5.false, (sym c.is_word-6.ensures ∙ c.if-is_word-6.false, (sym c.is_word-7.ensures ∙ c.if-is_word-7.false, (sym c.is_word-8.ensures ∙ c.if-is_word-8.false, tt))))))))
    (sym c.is_word-9.ensures ∙ c.if-is_word-9.true))
    c.on_one-then-is_word-9.ensures

pub making-returns : goal.making-returns
making-returns t c =
    let rs = table.making_rules (c.args.level + 1) built in
    gives_recipe c.taking.result (by_these r.RecipeText rs c.args.tokens.now) (by_these r.RecipeText (table.taking_rules (c.args.level + 1) built) c.args.tokens.now)
    (later_rules r.RecipeText 9 rs (piece_of c.in-Some.token.now) c.in-Some.rest c.args.tokens.now c.in-Some.ensures.some
    (sym c.is_word.ensures ∙ c.if-is_word.false, (sym c.is_word-2.ensures ∙ c.if-is_word-2.false, (sym c.is_word-3.ensures ∙ c.if-is_word-3.false, (sym c.is_word-4.ensures ∙ c.if-is_word-4.false, (sym c.is_word-5.ensures ∙ c.if-is_word-5.false, (sym c.is_word-6.ensures ∙ c.if-is_word-6.false, (sym c.is_word-7.ensures ∙ c.if-is_word-7.false, (sym c.is_word-8.ensures ∙ c.if-is_word-8.false, (sym c.is_word-9.ensures ∙ c.if-is_word-9.false, tt))))))))))
    c.taking.ensures

pub taking-returns-then-is_word-6 : goal.taking-returns-then-is_word-6
taking-returns-then-is_word-6 t c =
    let rs = table.taking_rules (c.args.level + 1) built in
    let rule = table.unary (c.args.level + 1) built (codes "body") r.Body in
    gives_recipe c.on_one-then-is_word-6.result (by_these r.RecipeText rs c.args.tokens.now) (after_first rule c.in-Some.token.now.line c.in-Some.rest)
    (this_rule r.RecipeText 5 rs rule _ (piece_of c.in-Some.token.now) c.in-Some.rest c.args.tokens.now c.in-Some.ensures.some refl
    (sym c.is_word.ensures ∙ c.if-is_word.false, (sym c.is_word-2.ensures ∙ c.if-is_word-2.false, (sym c.is_word-3.ensures ∙ c.if-is_word-3.false, (sym c.is_word-4.ensures ∙ c.if-is_word-4.false, (sym c.is_word-5.ensures ∙ c.if-is_word-5.false, tt)))))
    (sym c.is_word-6.ensures ∙ c.if-is_word-6.true))
    c.on_one-then-is_word-6.ensures

pub taking-returns-in-Some-text_of : goal.taking-returns-in-Some-text_of
taking-returns-in-Some-text_of t c =
    let first = piece_of c.in-Some.token.now in
    let rs = table.taking_rules (c.args.level + 1) built in
    let rule = table.parts_rule (c.args.level + 1) built in
    let found = kept_some AText first (quote_of c.in-Some-text_of.quote) c.in-Some-text_of.ensures in
    gives_recipe c.text_or_tuple.result (by_these r.RecipeText rs c.args.tokens.now) (after_first rule (quote_of c.in-Some-text_of.quote) c.in-Some.rest)
    (this_rule r.RecipeText 6 rs rule _ first c.in-Some.rest c.args.tokens.now c.in-Some.ensures.some refl
    (sym c.is_word.ensures ∙ c.if-is_word.false, (sym c.is_word-2.ensures ∙ c.if-is_word-2.false, (sym c.is_word-3.ensures ∙ c.if-is_word-3.false, (sym c.is_word-4.ensures ∙ c.if-is_word-4.false, (sym c.is_word-5.ensures ∙ c.if-is_word-5.false, (sym c.is_word-6.ensures ∙ c.if-is_word-6.false, tt))))))
    found.0
    ∙ sym (ap (λ k. after_first rule k c.in-Some.rest) found.1))
    c.text_or_tuple.ensures
