use Rattle.std.proofs.Common.{[], ◌∷◌, ap, sym, ◌∙◌}
use Rattle.std.specs.Prelude.{codes}
use Rattle.dy_lex.specs.declared.tokens.TokenKind.TheVariants.{Symbol}
use Rattle.dy_lex.specs.Tokens.{piece_of}
use Rattle.dy_grammar.specs.declared.limits.TheConstants.{TOO_DEEP}
use Rattle.dy_grammar.specs.Terminals.{This, accepts}
use Rattle.dy_grammar.specs.Tables.{part}
use Rattle.dy_grammar.specs.Parts.{ANm, AnExpr, ARecipe, Parenthesis, MoreTo}
use Rattle.dy_grammar.specs.Grammar.{Syms}
use Rattle.std.specs.Prelude.{Option}
use Rattle.dy_parse.specs.Mirrors.Skipping.{items_for}
use Rattle.dy_parse.proofs.Grammars.Skipping.{commas_more}
use Rattle.dy_parse.proofs.skipping.after_due.Goals as goal

pub returns-in-Nms-clause-more : goal.returns-in-Nms-clause-more
returns-in-Nms-clause-more c =
    let t = piece_of c.args.token.now in
    let item = c.after_nm-in-Nms.ensures.more in
    rw c.in-Nms.is
    (c.items.ensures.more
    ∙ ap (λ (o : Option Syms). items_for (accepts (This Symbol (codes ")")) t) o (part (MoreTo Parenthesis ANm) ∷ [])) item
    ∙ sym (commas_more ANm t))

pub returns-in-Exprs-clause-more : goal.returns-in-Exprs-clause-more
returns-in-Exprs-clause-more c =
    let t = piece_of c.args.token.now in
    let item = c.after_expr-in-Exprs.ensures.more in
    rw c.in-Exprs.is
    (c.items-in-Exprs.ensures.more
    ∙ ap (λ (o : Option Syms). items_for (accepts (This Symbol (codes ")")) t) o (part (MoreTo Parenthesis (AnExpr TOO_DEEP)) ∷ [])) item
    ∙ sym (commas_more (AnExpr TOO_DEEP) t))

pub returns-in-Recipes-clause-more : goal.returns-in-Recipes-clause-more
returns-in-Recipes-clause-more c =
    let t = piece_of c.args.token.now in
    let item = c.after_recipe-in-Recipes.ensures.more in
    rw c.in-Recipes.is
    (c.items-in-Recipes.ensures.more
    ∙ ap (λ (o : Option Syms). items_for (accepts (This Symbol (codes ")")) t) o (part (MoreTo Parenthesis (ARecipe TOO_DEEP)) ∷ [])) item
    ∙ sym (commas_more (ARecipe TOO_DEEP) t))
