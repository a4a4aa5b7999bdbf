use Rattle.std.proofs.Common.{ℕ, Option, sym, subst}
use Rattle.dy_term.specs.Meaning.{tree_of}
use Rattle.dy_derive.specs.MirrorTerms.{HasNumber}
use Rattle.dy_derive.proofs.TermNumbers.{none_over, some_over}
use Rattle.dy_derive.proofs.deductions.Deductions.number_over.Goals as goal

pub returns-in_err-node_over : goal.returns-in_err-node_over
returns-in_err-node_over c = λ facts table has.
    subst (λ (number : Option ℕ). HasNumber facts (tree_of c.args.term.now) number) (sym c.from_residual.ensures)
    (none_over c.args.self.now.nodes.keys facts table (tree_of c.args.term.now) c.args.a c.args.b c.args.c (sym c.in_err-node_over.ensures) has)

pub returns : goal.returns
returns c = λ facts table has.
    some_over c.args.self.now.nodes.keys facts table (tree_of c.args.term.now) c.args.a c.args.b c.args.c c.in_ok-node_over.field-0 c.find.result
    (sym c.in_ok-node_over.ensures) c.find.ensures.found c.find.ensures.missing has
