use Rattle.std.proofs.Common.{◌≡◌, ◌∙◌, ap, sym, map, Some, None}
use Rattle.std.specs.Option.{option_map}
use Rattle.dy_term.specs.Tuples.{tagged_tuple}
use Rattle.dy_flat.specs.Views.{tree_of}
use Rattle.dy_syntax.specs.Meaning.{expr_of, args_of}
use Rattle.dy_eval.specs.Values.{value, values, if_small}
use Rattle.dy_eval.specs.MirrorValues.{all_if_small}
use Rattle.dy_eval.specs.NamesMeaning.{names_of}
use Rattle.dy_eval.specs.ValueMeaning.{term_of, terms_of}
use Rattle.dy_eval.proofs.Rows.{values_of_args}
use Rattle.dy_eval.proofs.Sizes.{all_kept, tuple_not_small}
use Rattle.dy_eval.proofs.expressions.+value.Goals as goal

pub tuple_value-returns-in_default : goal.tuple_value-returns-in_default
tuple_value-returns-in_default t c =
    let names = names_of c.args.names.now in
    let listed = map (value names) (map expr_of c.as_slice.result.now) in
    let as_listed : values names (args_of c.args.parts.now) ≡ listed =
    values_of_args names c.args.parts.now ∙ ap (λ xs. map (value names) (map expr_of xs)) (sym c.as_slice.ensures.value) in
    let none : all_if_small listed ≡ None = sym c.in_ok-fields.ensures ∙ ap (option_map terms_of) c.in_default.is in
    sym (ap (λ terms. if_small (tagged_tuple c.args.parts.now.tag.text terms)) as_listed ∙ tuple_not_small c.args.parts.now.tag.text listed none)

pub tuple_value-returns : goal.tuple_value-returns
tuple_value-returns t c =
    let names = names_of c.args.names.now in
    let listed = map (value names) (map expr_of c.as_slice.result.now) in
    let as_listed : values names (args_of c.args.parts.now) ≡ listed =
    values_of_args names c.args.parts.now ∙ ap (λ xs. map (value names) (map expr_of xs)) (sym c.as_slice.ensures.value) in
    let found : all_if_small listed ≡ Some (map term_of c.in-Some.fields.items) = sym c.in_ok-fields.ensures ∙ ap (option_map terms_of) c.in-Some.is in
    let lent : map tree_of c.as_slice-3.result.now ≡ listed =
    ap (map tree_of) c.as_slice-3.ensures.value ∙ c.in_ok-lent.ensures ∙ ap (map term_of) c.as_slice-2.ensures.value ∙ all_kept listed (map term_of c.in-Some.fields.items) found in
    c.made_if_small.ensures ∙ ap if_small (c.in_ok-tuple.ensures ∙ ap (tagged_tuple c.args.parts.now.tag.text) (lent ∙ sym as_listed))
