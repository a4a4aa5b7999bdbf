use Rattle.std.proofs.Common.{ℕ, List, map, ap, sym, ◌∙◌}
use Rattle.dy_recipe.specs.Meaning.{move_of}
use Rattle.dy_recipe.specs.Moves.{Pair}
use Rattle.dy_plan.specs.Recipes.{with_move}
use Rattle.dy_plan.specs.MirrorRecipes.{paired}
use Rattle.dy_plan.proofs.Tuples.{paired-append}
use Rattle.dy_plan.proofs.recipes.pair_up.Goals as goal

pub loop-left-preserved : goal.loop-left-preserved
loop-left-preserved c =
    let lefts = c.pop.new.self in
    let left = c.in-Some.left in
    let made = map move_of c.push.new.moves in
    ap (λ (n : ℕ). paired lefts (with_move made (Pair left n))) c.in_ok-push.ensures.number
    ∙ sym (paired-append lefts left made)
    ∙ ap (λ (xs : List ℕ). paired xs made) (sym c.in-Some.ensures)
    ∙ ap (paired c.loop-left.lefts) c.in_ok-push.ensures.added
    ∙ c.loop-left.invariant
