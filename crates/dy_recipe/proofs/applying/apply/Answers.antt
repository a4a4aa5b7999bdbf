use Rattle.std.proofs.Common.{◌∙◌, ap, sym, map, option_map}
use Rattle.std.specs.Option.{option_and_then}
use Rattle.dy_recipe.specs.Meaning.{move_of}
use Rattle.dy_recipe.specs.Values.{last_of, recipe_value}
use Rattle.dy_recipe.proofs.LastValues.{taken_last}
use Rattle.dy_recipe.proofs.applying.apply.Goals as goal

pub returns-in-Some : goal.returns-in-Some
returns-in-Some g c =
    taken_last c.in-Some.made.items c.pop.new.self.items c.pop.result c.in-Some.made.len c.pop.new.self.len (sym c.in-Some.made.ok.0) c.pop.ensures.items c.pop.ensures.cases
    ∙ ap (λ made. option_and_then last_of (option_map (λ v. v.items) made)) (sym c.in-Some.is)
    ∙ ap (option_and_then last_of) c.in_ok-made.ensures
    ∙ ap (λ moves. recipe_value (g.G.Given.leaves c.args.given.now) (map move_of moves)) c.as_slice.ensures
