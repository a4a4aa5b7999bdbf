use Rattle.std.proofs.Common.{◌∙◌, sym}
use Rattle.dy_flat.proofs.WholeRuns.{is_run, run_term_is}
use Rattle.dy_flat.proofs.BuiltRuns.{built_two}
use Rattle.dy_flat.proofs.building.with_two.Goals as goal

pub of_run-requires : goal.of_run-requires
of_run-requires c =
    is_run _ _ (built_two _ _ _ _ _ _ _ c.in_ok-run.ensures c.in_ok-push.ensures c.in_ok-push_view.ensures c.in_ok-push_view-2.ensures ∙ sym c.requires)

pub returns : goal.returns
returns c =
    c.of_run.ensures
    ∙ run_term_is _ _ (built_two _ _ _ _ _ _ _ c.in_ok-run.ensures c.in_ok-push.ensures c.in_ok-push_view.ensures c.in_ok-push_view-2.ensures ∙ sym c.requires)
