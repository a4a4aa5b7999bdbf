-- How a recipe is trimmed: moves are marked from the last on, and those that are marked get new numbers.
-- It mirrors the code: `Trimming` says what it is for.
use Rattle.std.specs.Prelude.{◌≡◌, ℕ, ◌+◌, ◌-◌, ◌<◌, ◌≤◌, ◌⊎◌, Bool, true, false, Some}
use Rattle.std.specs.Prelude.{List, [], ◌∷◌, ◌++◌, length, slice_get, slice_index_or}
use Rattle.dy_recipe.specs.Moves.{Move}
use Rattle.dy_recipe.specs.Trimming.{numbers_of, new_number, renumber}

abbrev pub IsMarked : List Bool → ℕ → Type 0
IsMarked marks place = slice_index_or marks place false ≡ true

-- A later move that is marked names the one at this place.
pub record IsNamedLater (moves : List Move) (marks : List Bool) (place : ℕ) : Type 0 where
  pub later : ℕ
  pub move : Move
  pub after : place < later
  pub marked : IsMarked marks later
  pub stands : slice_get moves later ≡ Some move
  pub names : (k : ℕ) × (slice_get (numbers_of move) k ≡ Some (place + 1))

-- From this place on, what is marked names, of earlier moves, those that are marked. The last move is marked, and each
-- other that is marked is named by a later one.
pub record AreClosedFrom (left : ℕ) (moves : List Move) (marks : List Bool) : Type 0 where
  pub each : length marks ≡ length moves
  pub named : (place : ℕ) (move : Move) (k number : ℕ) → left ≤ place → slice_get moves place ≡ Some move
      → IsMarked marks place → slice_get (numbers_of move) k ≡ Some number → 0 < number → number ≤ place
      → IsMarked marks (number - 1)
  pub last : 0 < length moves → IsMarked marks (length moves - 1)
  pub needed : (place : ℕ) → IsMarked marks place → place + 1 < length moves → IsNamedLater moves marks place

abbrev pub AreClosed : List Move → List Bool → Type 0
AreClosed moves marks = AreClosedFrom 0 moves marks

-- Of so many moves, those of these numbers were marked, and no others.
pub record Marks (old new : List Bool) (most : ℕ) (numbers : List ℕ) : Type 0 where
  pub each : length new ≡ length old
  pub kept : (place : ℕ) → IsMarked old place → IsMarked new place
  pub done : (k number : ℕ) → slice_get numbers k ≡ Some number → 0 < number → number ≤ most
      → most ≤ length old → IsMarked new (number - 1)
  pub only : (place : ℕ) → IsMarked new place
      → IsMarked old place ⊎ ((place < most) × ((k : ℕ) × (slice_get numbers k ≡ Some (place + 1))))

-- The moves that are kept, after those that were: of each earlier move the new number is known.
abbrev pub kept_moves : List ℕ → List Move → List Move → List Bool → List Move
kept_moves numbers kept [] marks = kept
kept_moves numbers kept (move ∷ more) [] = kept
kept_moves numbers kept (move ∷ more) (true ∷ marks) =
    kept_moves (numbers ++ (length kept + 1) ∷ []) (kept ++ renumber (new_number numbers) move ∷ []) more marks
kept_moves numbers kept (move ∷ more) (false ∷ marks) = kept_moves (numbers ++ 0 ∷ []) kept more marks
