use Rattle.std.proofs.Common.{◌∙◌, ap, map}
use Rattle.std.proofs.lemmas.List.{drop_all}
use Rattle.dy_term.specs.Tuples.{tagged_tuple}
use Rattle.dy_flat.specs.Views.{tree_of}
use Rattle.dy_flat.proofs.WholeRuns.{is_run, run_term_is}
use Rattle.dy_flat.proofs.TupleRuns.{leads_end}
use Rattle.dy_flat.proofs.building.tuple.Goals as goal

pub of_run-requires : goal.of_run-requires
of_run-requires c =
    is_run _ (tagged_tuple c.args.tag.now (map tree_of c.args.fields.now))
    (leads_end _ _ _ _ _ _ (ap (map tree_of) (drop_all c.loop-field.field-index _ c.loop-field-test.false)) c.loop-field.invariant c.in_ok-push_view-2.ensures)

pub returns : goal.returns
returns c =
    c.of_run.ensures
    ∙ run_term_is _ (tagged_tuple c.args.tag.now (map tree_of c.args.fields.now))
    (leads_end _ _ _ _ _ _ (ap (map tree_of) (drop_all c.loop-field.field-index _ c.loop-field-test.false)) c.loop-field.invariant c.in_ok-push_view-2.ensures)
