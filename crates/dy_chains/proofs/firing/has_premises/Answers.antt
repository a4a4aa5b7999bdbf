use Rattle.std.proofs.Common.{sym, ◌∙◌}
use Rattle.std.proofs.lemmas.Bool.{both_ways}
use Rattle.dy_chains.specs.Logs.{IsLogged}
use Rattle.dy_chains.proofs.RulePremises.{each_one, each_two, each_three}
use Rattle.dy_chains.proofs.firing.has_premises.Goals as goal
use Rattle.dy_chains.proofs.firing.has_premises.Goals.{then-has-2, else-has-2}

pub returns-in-One : goal.returns-in-One
returns-in-One c =
    let each = each_one (IsLogged c.args.log.now.steps) c.args.rule.now c.in-One.first c.in-One.is in
    (λ true. each.1 (c.has.ensures.0 true), λ all. c.has.ensures.1 (each.0 all))

pub returns-then-has : goal.returns-then-has
returns-then-has c =
    let each = each_two (IsLogged c.args.log.now.steps) c.args.rule.now c.in-Two.first c.in-Two.second c.in-Two.is in
    (λ true. each.1 (c.has-in-Two.ensures.0 c.if-has.true, c.has-then-has.ensures.0 true), λ all. c.has-then-has.ensures.1 (each.0 all).1)

pub returns-else-has : goal.returns-else-has
returns-else-has c =
    let each = each_two (IsLogged c.args.log.now.steps) c.args.rule.now c.in-Two.first c.in-Two.second c.in-Two.is in
    (λ true. absurd (both_ways _ c.if-has.false true), λ all. c.has-in-Two.ensures.1 (each.0 all).0)

pub returns-then-has-3 : goal.returns-then-has-3
returns-then-has-3 c =
    let each = each_three (IsLogged c.args.log.now.steps) c.args.rule.now c.in-Three.first c.in-Three.second c.in-Three.third c.in-Three.is in (
      λ true. elim c.if-has-2.branch [
        | then-has-2 w ↦ each.1 (c.has-in-Three.ensures.0 w.if-has-2.true, w.has-then-has-2.ensures.0 (sym w.value-is ∙ c.if-has-3.true), c.has-then-has-3.ensures.0 true)
        | else-has-2 w ↦ absurd (both_ways _ w.if-has-2.false (sym w.value-is ∙ c.if-has-3.true))
      ],
      λ all. c.has-then-has-3.ensures.1 (each.0 all).2,
    )

pub returns-else-has-3 : goal.returns-else-has-3
returns-else-has-3 c =
    let each = each_three (IsLogged c.args.log.now.steps) c.args.rule.now c.in-Three.first c.in-Three.second c.in-Three.third c.in-Three.is in (
      λ true. absurd (both_ways _ c.if-has-3.false true),
      λ all. elim c.if-has-2.branch [
        | then-has-2 w ↦ w.value-is ∙ w.has-then-has-2.ensures.1 (each.0 all).1
        | else-has-2 w ↦ w.value-is ∙ c.has-in-Three.ensures.1 (each.0 all).0
      ],
    )
