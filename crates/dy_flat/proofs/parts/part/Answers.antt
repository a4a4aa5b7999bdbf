use Rattle.std.proofs.Common.{◌-◌, ◌∙◌}
use Rattle.dy_flat.proofs.WholeRuns.{piece, term_is, whole_is}
use Rattle.dy_flat.proofs.parts.part.Goals as goal

pub invariant_of-result : goal.invariant_of-result
invariant_of-result c =
    let view = c.args.view in
    let found = c.requires in
    record { whole = whole_is view.contents.now _ found.0 (piece view.contents.now view.nodes.now (c.args.to - c.args.from) c.args.from ∙ found.1.run) }

pub returns : goal.returns
returns c = λ term found.
    let view = c.args.view in
    term_is view.contents.now _ term (piece view.contents.now view.nodes.now (c.args.to - c.args.from) c.args.from ∙ found.run)
