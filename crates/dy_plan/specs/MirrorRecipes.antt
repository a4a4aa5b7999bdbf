-- What the code does at the end of a tuple.
use Rattle.std.specs.Prelude.{ℕ, List, [], ◌∷◌, length}
use Rattle.dy_recipe.specs.Moves.{Move, Pair}
use Rattle.dy_plan.specs.Recipes.{with_move}

-- the last value, paired with that of this number
abbrev pub pair_with : ℕ → List Move → List Move
pair_with left made = with_move made (Pair left (length made))

-- The last value is paired with that of the last number, the pair with that of the number before, and so on.
abbrev pub paired : List ℕ → List Move → List Move
paired [] made = made
paired (left ∷ lefts) made = pair_with left (paired lefts made)
