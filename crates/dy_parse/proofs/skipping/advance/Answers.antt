use Rattle.dy_lex.specs.Tokens.{piece_of}
use Rattle.dy_parse.proofs.Grammars.Skipping.{advances}
use Rattle.dy_parse.proofs.skipping.advance.Goals as goal

pub returns-in-Some-after_due-clause-some : goal.returns-in-Some-after_due-clause-some
returns-in-Some-after_due-clause-some c =
    advances (piece_of c.in-Some.token.now) c.in-Some.rest c.args.tokens.now c.args.due
    c.in-Some-after_due.later.now c.in-Some-after_due.more.now c.in-Some.ensures.some c.in-Some-after_due.ensures.more
