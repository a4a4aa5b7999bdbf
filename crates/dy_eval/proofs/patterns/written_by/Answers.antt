use Rattle.std.proofs.Common.{◌∙◌, ap, map, drop, ◌+◌, ◌++◌, arith}
use Rattle.dy_flat.specs.Views.{tree_of}
use Rattle.dy_syntax.specs.Meaning.{pattern_of}
use Rattle.dy_eval.specs.Patterns.{written_by}
use Rattle.dy_eval.proofs.Matching.{written_from}
use Rattle.dy_eval.proofs.patterns.written_by.Goals as goal

pub loop-at-preserved : goal.loop-at-preserved
loop-at-preserved c =
    ap (λ made. made ++ written_by (map pattern_of (drop (c.loop-at.at + 1) c.args.patterns.now)) (map tree_of (drop (c.loop-at.at + 1) c.args.fields.now))) c.in_ok-write_one.ensures
    ∙ written_from pattern_of tree_of c.args.patterns.now c.args.fields.now c.loop-at.at c.index-patterns-at.result c.index-fields-at.result c.loop-at.made.items c.loop-at-test.true (omega (arith, c.requires)) c.index-patterns-at.is c.index-fields-at.is
    ∙ c.loop-at.invariant
