use Rattle.std.proofs.Common.{◌∙◌, ap, sym, Some}
use Rattle.dy_flat.specs.Views.{tree_of}
use Rattle.dy_flat.specs.MirrorTuples.{fields_left}
use Rattle.dy_term.specs.Tuples.{tagged_tuple}
use Rattle.dy_eval.specs.Patterns.{fields_in}
use Rattle.dy_eval.proofs.TupleFields.{fields_found, fields_missing}
use Rattle.dy_eval.proofs.openings.fields_in.Goals as goal

pub returns-in-None : goal.returns-in-None
returns-in-None c = sym (fields_missing c.sameness_is_equality.ensures.equal c.args.tag.now c.args.count (tree_of c.args.term) c.in-None.ensures.none)

pub returns-in_ok-rest_of-in-Some : goal.returns-in_ok-rest_of-in-Some
returns-in_ok-rest_of-in-Some c =
    ap Some c.in_ok-rest_of-in-Some.ensures
    ∙ sym (fields_found c.sameness_is_equality.ensures.same c.args.tag.now (fields_left c.in-Some.fields))
    ∙ ap (λ count. fields_in c.args.tag.now count (tagged_tuple c.args.tag.now (fields_left c.in-Some.fields))) c.in-Some.ensures.count
    ∙ ap (fields_in c.args.tag.now c.args.count) (sym c.in-Some.ensures.fields)
