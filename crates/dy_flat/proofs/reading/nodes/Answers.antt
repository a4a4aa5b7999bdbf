use Rattle.std.proofs.Common.{◌∙◌, ap, min}
use Rattle.dy_flat.specs.Views.{tree_of}
use Rattle.dy_flat.proofs.WholeRuns.{length_whole, length-run_of}
use Rattle.dy_flat.proofs.reading.nodes.Goals as goal

pub returns : goal.returns
returns c =
    let view = c.args.view in
    c.min.ensures ∙ ap (λ n. min n 1025) (length_whole view.contents.now view.nodes.now (tree_of view) view.whole ∙ length-run_of (tree_of view))
