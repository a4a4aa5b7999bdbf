use Rattle.std.proofs.Common.{subst}
use Rattle.std.specs.Prelude.{List}
use Rattle.dy_lex.specs.Tokens.{Piece}
use Rattle.dy_grammar.specs.Files.{IsFile, with_end}
use Rattle.dy_parse.proofs.laws.one_file.Goals as goal

pub returns : goal.returns
returns c = λ bytes a b reads_a reads_b.
    let same = c.one_reading.ensures.same bytes reads_b.tokens reads_a.tokens reads_b.cut reads_a.cut in
    c.one_file.ensures (with_end bytes reads_a.tokens) a b reads_a.is_file (subst (λ (ts : List Piece). IsFile b (with_end bytes ts)) same reads_b.is_file)
