use Rattle.std.proofs.Common.{sym, ◌∙◌, refl}
use Rattle.dy_lex.specs.Tokens.{piece_of}
use Rattle.dy_syntax.specs.Statements.{Statement}
use Rattle.dy_grammar.specs.Grammar.{does_same}
use Rattle.dy_grammar.specs.Mirrors.Machine.{after_first, by_these}
use Rattle.dy_parse.specs.Mirrors.Statements as mirror
use Rattle.dy_parse.proofs.Grammars.Choice.{this_rule}
use Rattle.dy_parse.proofs.Grammars.Decls.{gives_statement}
use Rattle.dy_parse.proofs.statements.last_statement.Goals as goal

pub returns-then-is_word-4 : goal.returns-then-is_word-4
returns-then-is_word-4 c =
    gives_statement c.same.result (by_these Statement mirror.last_rules c.args.tokens.now) (after_first does_same c.in-Some.token.now.line c.in-Some.rest)
    (this_rule Statement 3 mirror.last_rules does_same _ (piece_of c.in-Some.token.now) c.in-Some.rest c.args.tokens.now c.in-Some.ensures.some refl
    (sym c.is_word.ensures ∙ c.if-is_word.false, (sym c.is_word-2.ensures ∙ c.if-is_word-2.false, (sym c.is_word-3.ensures ∙ c.if-is_word-3.false, tt)))
    (sym c.is_word-4.ensures ∙ c.if-is_word-4.true))
    c.same.ensures
