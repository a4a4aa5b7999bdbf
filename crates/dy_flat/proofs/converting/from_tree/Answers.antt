use Rattle.std.proofs.Common.{◌++◌, ◌∙◌, ap, reverse}
use Rattle.std.proofs.lemmas.List.{reverse-reverse}
use Rattle.dy_term.specs.Meaning.{tree_of}
use Rattle.dy_flat.specs.Runs.{run_of}
use Rattle.dy_flat.proofs.WholeRuns.{is_run, run_term_is}
use Rattle.dy_flat.proofs.converting.from_tree.Goals as goal

pub of_run-requires : goal.of_run-requires
of_run-requires c =
    let nodes = run_of (tree_of c.args.term.now) in
    is_run _ (tree_of c.args.term.now)
    (c.reverse.ensures ∙ ap reverse (c.in_ok-push_tree.ensures ∙ ap (λ prefix. prefix ++ reverse nodes) c.new-run.ensures) ∙ reverse-reverse nodes)

pub returns : goal.returns
returns c =
    let nodes = run_of (tree_of c.args.term.now) in
    c.of_run.ensures ∙ run_term_is _ (tree_of c.args.term.now)
    (c.reverse.ensures ∙ ap reverse (c.in_ok-push_tree.ensures ∙ ap (λ prefix. prefix ++ reverse nodes) c.new-run.ensures) ∙ reverse-reverse nodes)
