use Rattle.std.proofs.Common.{sym, map, ◌∙◌}
use Rattle.dy_term.specs.Meaning.{tree_of}
use Rattle.dy_recipe.specs.Meaning.{move_of}
use Rattle.dy_derive.proofs.TermsBuilt.{joined_by_log, joined_by_move}
use Rattle.dy_derive.proofs.deductions.Deductions.join.Goals as goal

pub returns-in-Some : goal.returns-in-Some
returns-in-Some c =
    joined_by_log c.args.self.now (map move_of c.args.moves.now.items) (tree_of c.args.term.now) c.args.a c.args.b c.args.c
    c.number_over-node.result c.number_over-node.ensures c.in-Some.number (sym c.in_ok-number.ensures ∙ c.in-Some.is)

pub returns-in_ok-number-in-None : goal.returns-in_ok-number-in-None
returns-in_ok-number-in-None c =
    joined_by_move c.args.self.now (map move_of c.args.moves.now.items) (tree_of c.args.term.now) c.args.a c.args.b c.args.c
    c.number_over-node.result c.number_over-node.ensures _ c.in_ok-number-in-None.number (sym c.in_ok-number.ensures ∙ c.in-None.is) c.in_ok-number-in-None.ensures
