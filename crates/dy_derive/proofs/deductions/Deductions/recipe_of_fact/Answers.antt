use Rattle.std.proofs.Common.{◌+◌, ◌<◌, ◌^◌, Option, ℕ, map, sym, subst, ◌∙◌}
use Rattle.std.specs.Option.{SomeIff}
use Rattle.dy_recipe.specs.Meaning.{move_of, recipe_of}
use Rattle.dy_derive.proofs.DerivableDecided.{no_place_none, place_gives}
use Rattle.dy_derive.proofs.deductions.Deductions.recipe_of_fact.Goals as goal

pub returns-in_default-clause-decided : goal.returns-in_default-clause-decided
returns-in_default-clause-decided c = λ T facts term deduced at.
    no_place_none c.args.self.now T facts c.log-log.ensures.chain deduced c.args.fact term at (sym c.place.ensures.value ∙ c.in_default.is)

pub returns-clause-decided : goal.returns-clause-decided
returns-clause-decided c = λ T facts term deduced at.
    let next = subst (λ (sum : Option ℕ). SomeIff sum (c.in-Some.place + 1 < 2 ^ 32) (c.in-Some.place + 1)) c.in_ok-number.ensures.ok_part c.checked_add.ensures in
    place_gives c.args.self.now T facts c.log-log.ensures.chain deduced c.args.fact c.in-Some.place c.in_ok-number.number term c.log-log.result.now
    (map move_of c.in_ok-moves.moves.items) (recipe_of c.in_ok-recipe_up_to.field-0) at (sym c.in-Some.ensures.value) next.1 c.log-log.ensures.value
    c.in_ok-moves.ensures c.in_ok-recipe_up_to.ensures.value
