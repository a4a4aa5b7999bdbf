use Rattle.std.proofs.Common.{◌≡◌, ◌∙◌, ap, sym, map, ◌+◌, true, false, Some, None, List, ℕ}
use Rattle.std.specs.Option.{option_map}
use Rattle.dy_term.specs.Terms.{Term}
use Rattle.dy_flat.specs.Views.{tree_of}
use Rattle.dy_syntax.specs.Meaning.{expr_of}
use Rattle.dy_entry.specs.LookUps.{newest}
use Rattle.dy_eval.specs.declared.items.Item.TheVariants.{State}
use Rattle.dy_eval.specs.Doings.{Puts}
use Rattle.dy_eval.specs.Values.{value, are_small}
use Rattle.dy_eval.specs.MirrorValues.{all_if_small}
use Rattle.dy_eval.specs.NamesMeaning.{names_of}
use Rattle.dy_eval.specs.ValueMeaning.{term_of, terms_of}
use Rattle.dy_eval.proofs.KnownEffects.{puts_small, puts_none}
use Rattle.dy_eval.proofs.Sizes.{all_kept, not_small_together}
use Rattle.dy_eval.proofs.puts.stores.Goals as goal

pub returns-in_default : goal.returns-in_default
returns-in_default g c =
    let names = names_of c.args.names.now in
    let terms = map (value names) (map expr_of c.args.fields.now) in
    let version = newest (g.P.Past.trace c.args.past.now) names.principal names.session + 1 in
    let none : all_if_small terms ≡ None = sym c.in_ok-fields.ensures ∙ ap (option_map terms_of) c.in_default.is in
    sym (puts_none (λ (x : List Term). State version c.args.state.now.word x) terms (not_small_together terms none))

pub returns-then-not-are_small : goal.returns-then-not-are_small
returns-then-not-are_small g c =
    let names = names_of c.args.names.now in
    let terms = map (value names) (map expr_of c.args.fields.now) in
    let version = newest (g.P.Past.trace c.args.past.now) names.principal names.session + 1 in
    let found : all_if_small terms ≡ Some (map term_of c.in-Some.fields.items) = sym c.in_ok-fields.ensures ∙ ap (option_map terms_of) c.in-Some.is in
    let lent : map tree_of c.as_slice-2.result.now ≡ terms =
    ap (map tree_of) c.as_slice-2.ensures.value ∙ c.in_ok-lent.ensures ∙ ap (map term_of) c.as_slice.ensures.value ∙ all_kept terms (map term_of c.in-Some.fields.items) found in
    let large : are_small terms ≡ false = ap are_small (sym lent) ∙ sym c.are_small.ensures ∙ c.if-not-are_small.true in
    sym (puts_none (λ (x : List Term). State version c.args.state.now.word x) terms large)

pub returns : goal.returns
returns g c =
    let names = names_of c.args.names.now in
    let terms = map (value names) (map expr_of c.args.fields.now) in
    let version = newest (g.P.Past.trace c.args.past.now) names.principal names.session + 1 in
    let found : all_if_small terms ≡ Some (map term_of c.in-Some.fields.items) = sym c.in_ok-fields.ensures ∙ ap (option_map terms_of) c.in-Some.is in
    let kept = all_kept terms (map term_of c.in-Some.fields.items) found in
    let lent : map tree_of c.as_slice-2.result.now ≡ terms =
    ap (map tree_of) c.as_slice-2.ensures.value ∙ c.in_ok-lent.ensures ∙ ap (map term_of) c.as_slice.ensures.value ∙ kept in
    let small : are_small terms ≡ true = ap are_small (sym lent) ∙ sym c.are_small.ensures ∙ c.if-not-are_small.false in
    let fields : c.in_ok-fields-2.fields ≡ terms =
    c.in_ok-fields-2.ensures ∙ ap (map tree_of) c.as_slice-3.ensures.value ∙ c.in_ok-lent.ensures ∙ ap (map term_of) c.as_slice.ensures.value ∙ kept in
    ap (λ (v : ℕ). Puts (State (v + 1) c.copy.result c.in_ok-fields-2.fields) None) c.newest-version.ensures
    ∙ ap (λ (w : List ℕ). Puts (State version w c.in_ok-fields-2.fields) None) c.copy.ensures
    ∙ ap (λ (x : List Term). Puts (State version c.args.state.now.word x) None) fields
    ∙ sym (puts_small (λ (x : List Term). State version c.args.state.now.word x) terms small)
