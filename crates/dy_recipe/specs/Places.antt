-- The value of a recipe, said by places.
use Rattle.std.specs.Prelude.{◌≡◌, ℕ, Some, List, length, take, slice_get}
use Rattle.dy_term.specs.Terms.{Term}
use Rattle.dy_recipe.specs.Moves.{Move, Leaves}
use Rattle.dy_recipe.specs.Values.{move_value, last_of}

-- Each move has a value, which is that of the move over the values of all earlier ones, and this is the last value.
pub record HasValue (leaves : Leaves) (moves : List Move) (value : Term) : Type 0 where
  pub values : List Term
  pub each : length values ≡ length moves
  pub over : (i : ℕ) (move : Move) → slice_get moves i ≡ Some move
      → slice_get values i ≡ move_value leaves (take i values) move
  pub last : last_of values ≡ Some value
