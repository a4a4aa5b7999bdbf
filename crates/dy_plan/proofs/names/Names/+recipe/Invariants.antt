use Rattle.std.proofs.Common.{◌≡◌, map, drop}
use Rattle.std.specs.Option.{option_map}
use Rattle.dy_recipe.specs.Meaning.{move_of}
use Rattle.dy_recipe.specs.Moves.{Lit}
use Rattle.dy_syntax.specs.Meaning.{recipe_of}
use Rattle.dy_syntax.specs.Recipes.{row_of}
use Rattle.dy_plan.specs.MirrorNames.{plan_in, trace_in}
use Rattle.dy_plan.specs.MirrorRecipes.{paired}
use Rattle.dy_plan.specs.Recipes.{add_pairs, with_move}
use Rattle.dy_plan.proofs.names.Names.+recipe.Given as goal

-- the moves of the fields that are left, paired with those before, are those of all fields
abbrev pub invariant-tuple_move-loop-arg : goal.invariant-tuple_move-loop-arg
invariant-tuple_move-loop-arg l =
    option_map (paired l.lefts) (add_pairs (plan_in l.self) (trace_in l.self) (row_of (map recipe_of (drop l.arg-index l.args))) (with_move (map move_of l.moves) (move_of l.step)))
    ≡ add_pairs (plan_in l.self) (trace_in l.self) (row_of (map recipe_of l.args)) (with_move (map move_of l.initial.moves) (Lit l.tag.text))
