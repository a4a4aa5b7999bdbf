use Rattle.std.proofs.Common.{◌≡◌, ◌∙◌, ap, sym, subst, map, true, false, IfOk, MatchOption, Option, Some, None, List, ℕ, arith}
use Rattle.dy_entry.specs.Entries.{Entry}
use Rattle.dy_entry.specs.LookUps.{HasNoNext}
use Rattle.dy_eval.specs.declared.past.Stored as code
use Rattle.dy_eval.specs.MirrorPast.{FoundNext}
use Rattle.dy_flat.specs.Views.{tree_of}
use Rattle.dy_syntax.specs.Meaning.{pattern_of}
use Rattle.dy_eval.specs.Doings.{Effect}
use Rattle.dy_eval.specs.EffectMeaning.{as_effect}
use Rattle.dy_eval.specs.Patterns.{fits, match_patterns}
use Rattle.dy_eval.specs.NamesMeaning.{names_of}
use Rattle.dy_eval.specs.StoredMeaning.{stored_of}
use Rattle.dy_eval.proofs.Recalling.{At, recalled_found, recalled_none, passes_on, fewer_left}
use Rattle.dy_eval.proofs.stored_states.recall.Goals as goal

none_left : (X : List Entry) (principal tag : List ℕ) (from : Option At) (state : Option code.Stored)
    → MatchOption state (HasNoNext X principal tag from) (λ stored. FoundNext X principal tag from (stored_of stored)) → state ≡ None → HasNoNext X principal tag from
none_left X principal tag from None none is = none
none_left X principal tag from (Some stored) found is = absurd (grind arith)

pub returns-then-fits : goal.returns-then-fits
returns-then-fits g c =
    let names = names_of c.args.names.now in
    let X = g.P.Past.trace c.args.past.now in
    let patterns = map pattern_of c.args.patterns.now in
    let stored = stored_of c.in-Some.stored in
    let fit : fits names patterns stored.fields ≡ true =
    ap (fits names patterns) (sym (ap (map tree_of) c.as_slice.ensures.value ∙ c.in_ok-fields.ensures)) ∙ sym c.fits.ensures ∙ c.if-fits.true in
    let found = recalled_found X names c.args.tag.now patterns c.loop-stored.from stored c.in-Some.ensures c.states_are_in_one_order.ensures.total c.requires c.loop-stored.invariant fit in
    subst (λ (e : Effect). IfOk c.match_patterns.result (λ effect. as_effect effect ≡ e))
    (ap (match_patterns names patterns) (ap (map tree_of) c.as_slice-then-fits.ensures.value ∙ c.in_ok-fields.ensures) ∙ sym found) c.match_patterns.ensures

pub loop-stored-smaller : goal.loop-stored-smaller
loop-stored-smaller g c =
    fewer_left c.states_are_in_one_order.ensures.itself c.states_are_in_one_order.ensures.through (g.P.Past.trace c.args.past.now) c.args.names.now.principal c.args.tag.now c.loop-stored.from (stored_of c.in-Some.stored) c.in-Some.ensures

pub loop-stored-preserved : goal.loop-stored-preserved
loop-stored-preserved g c =
    let names = names_of c.args.names.now in
    let X = g.P.Past.trace c.args.past.now in
    let patterns = map pattern_of c.args.patterns.now in
    let stored = stored_of c.in-Some.stored in
    let unfit : fits names patterns stored.fields ≡ false =
    ap (fits names patterns) (sym (ap (map tree_of) c.as_slice.ensures.value ∙ c.in_ok-fields.ensures)) ∙ sym c.fits.ensures ∙ c.if-fits.false in
    passes_on X names c.args.tag.now patterns c.loop-stored.from stored c.in-Some.ensures c.states_are_in_one_order.ensures.total c.requires c.loop-stored.invariant unfit

pub returns : goal.returns
returns g c =
    sym (recalled_none (g.P.Past.trace c.args.past.now) (names_of c.args.names.now) c.args.tag.now (map pattern_of c.args.patterns.now) c.loop-stored.from
    (none_left (g.P.Past.trace c.args.past.now) c.args.names.now.principal c.args.tag.now c.loop-stored.from c.next_stored.result c.next_stored.ensures (cc)) c.loop-stored.invariant)
