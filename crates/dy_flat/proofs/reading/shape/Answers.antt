use Rattle.dy_flat.specs.declared.flat_nodes.Node.TheVariants as code
use Rattle.dy_flat.specs.Runs as runs
use Rattle.dy_flat.proofs.WholeRuns.{first_some, made_some}
use Rattle.dy_flat.proofs.reading.shape.Goals as goal

pub text-requires : goal.text-requires
text-requires c =
    let view = c.args.view in
    made_some runs.Lit _ (rw c.in-Lit.is at (first_some view.contents.now view.nodes.now (code.Lit 0) view.whole))

pub name-requires : goal.name-requires
name-requires c =
    let view = c.args.view in
    made_some runs.Name _ (rw c.in-Name.is at (first_some view.contents.now view.nodes.now (code.Lit 0) view.whole))

pub text-requires-in-Kdf : goal.text-requires-in-Kdf
text-requires-in-Kdf c =
    let view = c.args.view in
    made_some runs.Kdf _ (rw c.in-Kdf.is at (first_some view.contents.now view.nodes.now (code.Lit 0) view.whole))
