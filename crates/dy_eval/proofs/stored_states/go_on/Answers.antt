use Rattle.std.proofs.Common.{◌≡◌, ◌∙◌, ap, sym, subst, map, IfOk}
use Rattle.std.specs.Option.{option_map}
use Rattle.dy_syntax.specs.Meaning.{on_part_of, pattern_of}
use Rattle.dy_entry.specs.LookUps.{state_at}
use Rattle.dy_eval.specs.Doings.{Effect}
use Rattle.dy_eval.specs.EffectMeaning.{as_effect}
use Rattle.dy_eval.specs.Patterns.{match_patterns}
use Rattle.dy_eval.specs.NamesMeaning.{names_of}
use Rattle.dy_eval.specs.StoredMeaning.{stored_of}
use Rattle.dy_eval.proofs.KnownEffects.{gone_on_found}
use Rattle.dy_eval.proofs.stored_states.go_on.Goals as goal

pub returns : goal.returns
returns g c =
    let names = names_of c.args.names.now in
    let X = g.P.Past.trace c.args.past.now in
    let at = ap (state_at X names.principal names.session) (sym c.newest-newest.ensures) ∙ sym c.state_at.ensures ∙ c.in-Some.is in
    let is = sym c.state.ensures ∙ ap (option_map stored_of) c.in-Some-state.is in
    let found = gone_on_found X names (on_part_of c.args.on.now) c.in-Some.index (stored_of c.in-Some-state.stored) at is (sym c.same.ensures ∙ c.if-not-same.false) in
    subst (λ (e : Effect). IfOk c.match_terms.result (λ effect. as_effect effect ≡ e))
    (ap (λ ps. match_patterns names (map pattern_of ps) c.in-Some-state.stored.fields.now) c.as_slice.ensures ∙ sym found) c.match_terms.ensures
