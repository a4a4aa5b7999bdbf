use Rattle.std.proofs.Common.{◌≡◌, ◌+◌, [], ◌∷◌, ◌++◌, None, map, refl, sym, ◌∙◌, ap, rules}
use Rattle.std.specs.Prelude.{codes}
use Rattle.std.proofs.lemmas.List.{map_push}
use Rattle.std.proofs.lemmas.Result.{err_from_is_err_and}
use Rattle.dy_lex.specs.Tokens.{piece_of}
use Rattle.dy_syntax.specs.Expressions as e
use Rattle.dy_syntax.specs.Meaning.{expr_of, quote_of}
use Rattle.dy_grammar.specs.Terminals.{AText}
use Rattle.dy_grammar.specs.Parts.{AnExpr}
use Rattle.dy_grammar.specs.Grammar as table
use Rattle.dy_grammar.specs.Mirrors.Machine.{after_first, built, by_these, token_value_if}
use Rattle.dy_parse.specs.declared.lists.Rest.TheVariants as rests
use Rattle.dy_parse.specs.Mirrors.Lists.{after_mark, rest_at, with_prefix}
use Rattle.dy_parse.proofs.Grammars.Lists.{ends_with, goes_on, fails_with, next_shorter}
use Rattle.dy_parse.proofs.Grammars.Choice.{this_rule, later_rules, kept_some, kept_none, gives_expr}
use Rattle.dy_parse.proofs.expressions.+expression.Goals as goal

-- ---- a list

pub more_exprs-returns-in-Some : goal.more_exprs-returns-in-Some
more_exprs-returns-in-Some t c =
    let total = with_prefix (map expr_of c.args.prefix.items) (rest_at rests.Parentheses (AnExpr c.args.level) c.args.tokens.now) in
    ends_with rests.Parentheses (AnExpr c.args.level) total (map expr_of c.items.found.items) c.items.left c.items.invariant c.in-Some.rest (search rules)

pub more_exprs-returns-in_err-item : goal.more_exprs-returns-in_err-item
more_exprs-returns-in_err-item t c =
    let total = with_prefix (map expr_of c.args.prefix.items) (rest_at rests.Parentheses (AnExpr c.args.level) c.args.tokens.now) in
    let p = err_from_is_err_and c.from_residual.result c.from_residual.ensures.1 in
    let open_ : after_mark (codes ")") c.items.left ≡ None = search rules in
    rw (p.1, p.2) (fails_with rests.Parentheses (AnExpr c.args.level) total (map expr_of c.items.found.items) c.items.left c.items.invariant c.in_err-item.field-0.0 open_ c.in_err-item.ensures)

pub more_exprs-items-smaller : goal.more_exprs-items-smaller
more_exprs-items-smaller t c = next_shorter rests.Parentheses (AnExpr c.args.level) c.items.left _ c.in_ok-item.ensures

pub more_exprs-items-preserved : goal.more_exprs-items-preserved
more_exprs-items-preserved t c =
    let total = with_prefix (map expr_of c.args.prefix.items) (rest_at rests.Parentheses (AnExpr c.args.level) c.args.tokens.now) in
    let open_ : after_mark (codes ")") c.items.left ≡ None = search rules in
    let more : c.push.new.self.items ≡ c.items.found.items ++ c.in_ok-item.item ∷ [] = c.in_ok-push.ensures.items in
    let pushed : map expr_of c.push.new.self.items ≡ map expr_of c.items.found.items ++ expr_of c.in_ok-item.item ∷ [] = ap (map expr_of) more ∙ map_push expr_of c.items.found.items c.in_ok-item.item in
    rw pushed (goes_on rests.Parentheses (AnExpr c.args.level) total (map expr_of c.items.found.items) c.items.left c.items.invariant (expr_of c.in_ok-item.item) c.in_ok-item.rest open_ c.in_ok-item.ensures)

-- ---- a rule

pub built_expr-returns-then-is_word-5 : goal.built_expr-returns-then-is_word-5
built_expr-returns-then-is_word-5 t c =
    let rs = table.expr_rules_with (c.args.level + 1) built in
    let r = table.penc_rule (c.args.level + 1) built in
    gives_expr c.penc.result (by_these e.Expr rs c.args.tokens.now) (after_first r c.in-Some.token.now.line c.in-Some.rest)
    (this_rule e.Expr 4 rs r _ (piece_of c.in-Some.token.now) c.in-Some.rest c.args.tokens.now c.in-Some.ensures.some refl
    (sym c.is_word.ensures ∙ c.if-is_word.false, (sym c.is_word-2.ensures ∙ c.if-is_word-2.false, (sym c.is_word-3.ensures ∙ c.if-is_word-3.false, (sym c.is_word-4.ensures ∙ c.if-is_word-4.false, tt))))
    (sym c.is_word-5.ensures ∙ c.if-is_word-5.true))
    c.penc.ensures

pub built_expr-returns-then-is_word-6 : goal.built_expr-returns-then-is_word-6
built_expr-returns-then-is_word-6 t c =
    let rs = table.expr_rules_with (c.args.level + 1) built in
    let r = table.aead_rule (c.args.level + 1) built in
    gives_expr c.aead.result (by_these e.Expr rs c.args.tokens.now) (after_first r c.in-Some.token.now.line c.in-Some.rest)
    (this_rule e.Expr 5 rs r _ (piece_of c.in-Some.token.now) c.in-Some.rest c.args.tokens.now c.in-Some.ensures.some refl
    (sym c.is_word.ensures ∙ c.if-is_word.false, (sym c.is_word-2.ensures ∙ c.if-is_word-2.false, (sym c.is_word-3.ensures ∙ c.if-is_word-3.false, (sym c.is_word-4.ensures ∙ c.if-is_word-4.false, (sym c.is_word-5.ensures ∙ c.if-is_word-5.false, tt)))))
    (sym c.is_word-6.ensures ∙ c.if-is_word-6.true))
    c.aead.ensures

pub built_expr-returns-then-is_word-7 : goal.built_expr-returns-then-is_word-7
built_expr-returns-then-is_word-7 t c =
    let rs = table.expr_rules_with (c.args.level + 1) built in
    let r = table.sign_rule (c.args.level + 1) built in
    gives_expr c.sign.result (by_these e.Expr rs c.args.tokens.now) (after_first r c.in-Some.token.now.line c.in-Some.rest)
    (this_rule e.Expr 6 rs r _ (piece_of c.in-Some.token.now) c.in-Some.rest c.args.tokens.now c.in-Some.ensures.some refl
    (sym c.is_word.ensures ∙ c.if-is_word.false, (sym c.is_word-2.ensures ∙ c.if-is_word-2.false, (sym c.is_word-3.ensures ∙ c.if-is_word-3.false, (sym c.is_word-4.ensures ∙ c.if-is_word-4.false, (sym c.is_word-5.ensures ∙ c.if-is_word-5.false, (sym c.is_word-6.ensures ∙ c.if-is_word-6.false, tt))))))
    (sym c.is_word-7.ensures ∙ c.if-is_word-7.true))
    c.sign.ensures

pub built_expr-returns-then-is_word-8 : goal.built_expr-returns-then-is_word-8
built_expr-returns-then-is_word-8 t c =
    let rs = table.expr_rules_with (c.args.level + 1) built in
    let r = table.mac_rule (c.args.level + 1) built in
    gives_expr c.mac.result (by_these e.Expr rs c.args.tokens.now) (after_first r c.in-Some.token.now.line c.in-Some.rest)
    (this_rule e.Expr 7 rs r _ (piece_of c.in-Some.token.now) c.in-Some.rest c.args.tokens.now c.in-Some.ensures.some refl
    (sym c.is_word.ensures ∙ c.if-is_word.false, (sym c.is_word-2.ensures ∙ c.if-is_word-2.false, (sym c.is_word-3.ensures ∙ c.if-is_word-3.false, (sym c.is_word-4.ensures ∙ c.if-is_word-4.false, (sym c.is_word-5.ensures ∙ c.if-is_word-5.false, (sym c.is_word-6.ensures ∙ c.if-is_word-6.false, (sym c.is_word-7.ensures ∙ c.if-is_word-7.false, tt)))))))
    (sym c.is_word-8.ensures ∙ c.if-is_word-8.true))
    c.mac.ensures

pub built_expr-returns-in-Some-text_of : goal.built_expr-returns-in-Some-text_of
built_expr-returns-in-Some-text_of t c =
    let first = piece_of c.in-Some.token.now in
    let rs = table.expr_rules_with (c.args.level + 1) built in
    let r = table.text_rule (c.args.level + 1) built in
    let found = kept_some AText first (quote_of c.in-Some-text_of.quote) c.in-Some-text_of.ensures in
    gives_expr c.text_or_tuple.result (by_these e.Expr rs c.args.tokens.now) (after_first r (quote_of c.in-Some-text_of.quote) c.in-Some.rest)
    (this_rule e.Expr 10 rs r _ first c.in-Some.rest c.args.tokens.now c.in-Some.ensures.some refl
    (sym c.is_word.ensures ∙ c.if-is_word.false, (sym c.is_word-2.ensures ∙ c.if-is_word-2.false, (sym c.is_word-3.ensures ∙ c.if-is_word-3.false, (sym c.is_word-4.ensures ∙ c.if-is_word-4.false, (sym c.is_word-5.ensures ∙ c.if-is_word-5.false, (sym c.is_word-6.ensures ∙ c.if-is_word-6.false, (sym c.is_word-7.ensures ∙ c.if-is_word-7.false, (sym c.is_word-8.ensures ∙ c.if-is_word-8.false, (sym c.is_word-9.ensures ∙ c.if-is_word-9.false, (sym c.is_word-10.ensures ∙ c.if-is_word-10.false, tt))))))))))
    found.0
    ∙ sym (ap (λ k. after_first r k c.in-Some.rest) found.1))
    c.text_or_tuple.ensures

pub built_expr-returns : goal.built_expr-returns
built_expr-returns t c =
    let first = piece_of c.in-Some.token.now in
    let rs = table.expr_rules_with (c.args.level + 1) built in
    let no_text : None ≡ token_value_if AText first = search rules in
    gives_expr c.a_name.result (by_these e.Expr rs c.args.tokens.now) (by_these e.Expr (table.name_rule built ∷ []) c.args.tokens.now)
    (later_rules e.Expr 11 rs first c.in-Some.rest c.args.tokens.now c.in-Some.ensures.some
    (sym c.is_word.ensures ∙ c.if-is_word.false, (sym c.is_word-2.ensures ∙ c.if-is_word-2.false, (sym c.is_word-3.ensures ∙ c.if-is_word-3.false, (sym c.is_word-4.ensures ∙ c.if-is_word-4.false, (sym c.is_word-5.ensures ∙ c.if-is_word-5.false, (sym c.is_word-6.ensures ∙ c.if-is_word-6.false, (sym c.is_word-7.ensures ∙ c.if-is_word-7.false, (sym c.is_word-8.ensures ∙ c.if-is_word-8.false, (sym c.is_word-9.ensures ∙ c.if-is_word-9.false, (sym c.is_word-10.ensures ∙ c.if-is_word-10.false, (kept_none AText first no_text, tt))))))))))))
    c.a_name.ensures
