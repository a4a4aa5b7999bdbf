use Rattle.std.proofs.Common.{◌≡◌, ℕ, ◌+◌, ◌-◌, ◌<◌, List, length, get_or, sym, ap, subst, ◌∙◌}
use Rattle.std.specs.Option.{option_copied}
use Rattle.std.specs.List.{slice_get}
use Rattle.dy_syntax.specs.declared.plans.Round.{Round}
use Rattle.dy_plan.proofs.Rounds.{steps_left, got_here, got_later, past_end}
use Rattle.dy_plan.proofs.steps.numbered_step.Goals as goal

pub returns-in-Some : goal.returns-in-Some
returns-in-Some c =
    let rounds = c.args.plan.now.rounds in
    let i = c.loop-round.round-index in
    let round = c.round-item.result in
    let listed = c.as_slice-round-items.ensures in
    let within : i < length rounds = subst (λ (xs : List Round). i < length xs) listed c.loop-round-test.true in
    let is : round ≡ get_or rounds i round = c.round-item.is ∙ ap (λ (xs : List Round). get_or xs i round) listed in
    sym (got_here rounds i round within is c.loop-round.place c.in-Some.step.now (sym c.get.ensures.value ∙ ap option_copied c.in-Some.is))
    ∙ c.loop-round.invariant

pub loop-round-preserved : goal.loop-round-preserved
loop-round-preserved c =
    let rounds = c.args.plan.now.rounds in
    let i = c.loop-round.round-index in
    let round = c.round-item.result in
    let place = c.loop-round.place in
    let listed = c.as_slice-round-items.ensures in
    let within : i < length rounds = subst (λ (xs : List Round). i < length xs) listed c.loop-round-test.true in
    let is : round ≡ get_or rounds i round = c.round-item.is ∙ ap (λ (xs : List Round). get_or xs i round) listed in
    let past = past_end round.steps place (sym c.get.ensures.value ∙ ap option_copied c.in_default.is) in
    ap (λ (n : ℕ). slice_get (steps_left rounds (i + 1)) (place - n)) c.len-place.ensures
    ∙ sym (got_later rounds i round within is place past) ∙ c.loop-round.invariant
