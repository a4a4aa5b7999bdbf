use Rattle.std.proofs.Common.{◌≡◌, ℕ, ◌<◌, ◌+◌, List, length, get_or, sym, ap, subst, ◌∙◌}
use Rattle.std.specs.Option.{option_map}
use Rattle.std.specs.List.{position}
use Rattle.std.specs.Str.{bytes_eq}
use Rattle.dy_syntax.specs.declared.plans.Round.{Round}
use Rattle.dy_syntax.specs.declared.plans.Step.{Step}
use Rattle.dy_plan.proofs.Rounds.{steps_left, count_more, found_here, found_later}
use Rattle.dy_plan.proofs.steps.number_of.Goals as goal

pub returns-in-Some : goal.returns-in-Some
returns-in-Some c =
    let rounds = c.args.plan.now.rounds in
    let i = c.loop-round.round-index in
    let round = c.round-item.result in
    let first = λ (steps : List Step). position (λ step. bytes_eq step.name.word c.args.name.now) steps in
    let listed = c.as_slice-round-items.ensures in
    let within : i < length rounds = subst (λ (xs : List Round). i < length xs) listed c.loop-round-test.true in
    let is : round ≡ get_or rounds i round = c.round-item.is ∙ ap (λ (xs : List Round). get_or xs i round) listed in
    sym (found_here rounds c.args.name.now i round within is _ c.loop-round.before c.in-Some.place c.loop-round.invariant.1
    (ap first (sym c.as_slice.ensures) ∙ sym c.place_of.ensures.first ∙ c.in-Some.is))

pub loop-round-preserved : goal.loop-round-preserved
loop-round-preserved c =
    let rounds = c.args.plan.now.rounds in
    let i = c.loop-round.round-index in
    let round = c.round-item.result in
    let first = λ (steps : List Step). position (λ step. bytes_eq step.name.word c.args.name.now) steps in
    let listed = c.as_slice-round-items.ensures in
    let within : i < length rounds = subst (λ (xs : List Round). i < length xs) listed c.loop-round-test.true in
    let is : round ≡ get_or rounds i round = c.round-item.is ∙ ap (λ (xs : List Round). get_or xs i round) listed in
    let counted = count_more rounds i round c.loop-round.before _ within is c.loop-round.invariant.0 in
    let later = found_later rounds c.args.name.now i round within is _ c.loop-round.before c.loop-round.invariant.1
    (ap first (sym c.as_slice.ensures) ∙ sym c.place_of.ensures.first ∙ c.in_default.is) in
    let P = position (λ step. bytes_eq step.name.word c.args.name.now) (steps_left rounds (i + 1)) in
    let len = c.len.ensures in (
      ap (λ (n : ℕ). c.loop-round.before + n + length (steps_left rounds (i + 1))) len ∙ counted,
      later ∙ ap (λ (n : ℕ). option_map (λ k. c.loop-round.before + n + k) P) (sym len),
    )
