use Rattle.std.proofs.Common.{sym, ◌∙◌}
use Rattle.dy_flat.specs.Views.{tree_of}
use Rattle.dy_flat.proofs.TupleFields.{no_tuple, tuple_with}
use Rattle.dy_flat.proofs.tuples.tuple_fields.Goals as goal

pub returns-then-not-is_tuple-clause-none : goal.returns-then-not-is_tuple-clause-none
returns-then-not-is_tuple-clause-none c =
    no_tuple c.sameness_is_equality.ensures.same c.args.tag.now c.args.count (tree_of c.args.view) (sym c.is_tuple.ensures ∙ c.if-not-is_tuple.true)

pub returns-clause-fields : goal.returns-clause-fields
returns-clause-fields c =
    (tuple_with c.sameness_is_equality.ensures.equal c.args.tag.now c.args.count (tree_of c.args.view) (tree_of c.in_ok-second.field-0) c.if-count-eq0.false (sym c.is_tuple.ensures ∙ c.if-not-is_tuple.false) c.in_ok-second.ensures).is

pub returns-clause-count : goal.returns-clause-count
returns-clause-count c =
    (tuple_with c.sameness_is_equality.ensures.equal c.args.tag.now c.args.count (tree_of c.args.view) (tree_of c.in_ok-second.field-0) c.if-count-eq0.false (sym c.is_tuple.ensures ∙ c.if-not-is_tuple.false) c.in_ok-second.ensures).many
