use Rattle.std.proofs.Common.{◌≡◌, ℕ, ◌+◌, ◌∷◌, ◌++◌, ◌∙◌, ap, length, arith}
use Rattle.std.proofs.lemmas.List.{length-append}
use Rattle.dy_term.specs.Terms as trees
use Rattle.dy_flat.specs.declared.views.View.{View}
use Rattle.dy_flat.specs.Runs as runs
use Rattle.dy_flat.specs.Runs.{run_of}
use Rattle.dy_flat.specs.Views.{tree_of}
use Rattle.dy_flat.proofs.WholeRuns.{is_run, run_term_is, length_whole}
use Rattle.dy_flat.proofs.BuiltRuns.{built_three}
use Rattle.dy_flat.proofs.building.aead.Goals as goal

-- the nodes of the key and of the message
before_is : (k m : View) (count : ℕ) → count ≡ length k.nodes.now + length m.nodes.now → count ≡ length (run_of (tree_of k) ++ run_of (tree_of m))
before_is k m count is =
    omega (arith, is, length_whole k.contents.now k.nodes.now (tree_of k) k.whole, length_whole m.contents.now m.nodes.now (tree_of m) m.whole, length-append (run_of (tree_of k)) (run_of (tree_of m)))

pub of_run-requires : goal.of_run-requires
of_run-requires c =
    let tail = run_of (tree_of c.args.k) ++ (run_of (tree_of c.args.m) ++ run_of (tree_of c.args.a)) in
    is_run _ (trees.Aead (tree_of c.args.k) (tree_of c.args.m) (tree_of c.args.a))
    (built_three _ _ _ _ _ _ _ _ _ c.in_ok-run.ensures c.in_ok-push.ensures c.in_ok-push_view.ensures c.in_ok-push_view-2.ensures c.in_ok-push_view-3.ensures
    ∙ ap (λ n. runs.Aead n ∷ tail) (before_is c.args.k c.args.m _ c.in_ok-as_number.ensures.number))

pub returns : goal.returns
returns c =
    let tail = run_of (tree_of c.args.k) ++ (run_of (tree_of c.args.m) ++ run_of (tree_of c.args.a)) in
    c.of_run.ensures
    ∙ run_term_is _ (trees.Aead (tree_of c.args.k) (tree_of c.args.m) (tree_of c.args.a))
    (built_three _ _ _ _ _ _ _ _ _ c.in_ok-run.ensures c.in_ok-push.ensures c.in_ok-push_view.ensures c.in_ok-push_view-2.ensures c.in_ok-push_view-3.ensures
    ∙ ap (λ n. runs.Aead n ∷ tail) (before_is c.args.k c.args.m _ c.in_ok-as_number.ensures.number))
