use Rattle.std.proofs.Common.{sym, ◌∙◌, refl}
use Rattle.dy_lex.specs.Tokens.{piece_of}
use Rattle.dy_syntax.specs.Statements.{Statement}
use Rattle.dy_grammar.specs.Grammar.{statement_rules, does_store}
use Rattle.dy_grammar.specs.Mirrors.Machine.{after_first, by_these}
use Rattle.dy_parse.specs.Mirrors.Statements as mirror
use Rattle.dy_parse.proofs.Grammars.Choice.{this_rule, later_rules}
use Rattle.dy_parse.proofs.Grammars.Decls.{gives_statement}
use Rattle.dy_parse.proofs.statements.statement.Goals as goal

pub returns-then-is_word-5 : goal.returns-then-is_word-5
returns-then-is_word-5 c =
    gives_statement c.store.result (by_these Statement statement_rules c.args.tokens.now) (after_first does_store c.in-Some.token.now.line c.in-Some.rest)
    (this_rule Statement 4 statement_rules does_store _ (piece_of c.in-Some.token.now) c.in-Some.rest c.args.tokens.now c.in-Some.ensures.some refl
    (sym c.is_word.ensures ∙ c.if-is_word.false, (sym c.is_word-2.ensures ∙ c.if-is_word-2.false, (sym c.is_word-3.ensures ∙ c.if-is_word-3.false, (sym c.is_word-4.ensures ∙ c.if-is_word-4.false, tt))))
    (sym c.is_word-5.ensures ∙ c.if-is_word-5.true))
    c.store.ensures

pub returns : goal.returns
returns c =
    gives_statement c.later_statement.result (by_these Statement statement_rules c.args.tokens.now) (by_these Statement mirror.later_rules c.args.tokens.now)
    (later_rules Statement 5 statement_rules (piece_of c.in-Some.token.now) c.in-Some.rest c.args.tokens.now c.in-Some.ensures.some
    (sym c.is_word.ensures ∙ c.if-is_word.false, (sym c.is_word-2.ensures ∙ c.if-is_word-2.false, (sym c.is_word-3.ensures ∙ c.if-is_word-3.false, (sym c.is_word-4.ensures ∙ c.if-is_word-4.false, (sym c.is_word-5.ensures ∙ c.if-is_word-5.false, tt))))))
    c.later_statement.ensures
