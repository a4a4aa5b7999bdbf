-- How the steps of a round are dealt to workers.
use Rattle.std.specs.Prelude.{◌≡◌, ℕ, zero, suc, ◌%◌, ◌<◌, ◌==◌, List, [], ◌∷◌, ◌++◌, Some, slice_get, if◌then◌else◌}

-- Of the first so many places of a round, in rising order, those that leave the worker's number modulo the workers.
-- Places and workers count from 0.
abbrev pub places_of_worker : ℕ → ℕ → ℕ → List ℕ
places_of_worker workers worker zero = []
places_of_worker workers worker (suc place) =
    let earlier = places_of_worker workers worker place in
    if place % workers == worker then earlier ++ place ∷ [] else earlier

-- The places are those below the count that leave the worker's number, in rising order.
pub record IsShare (workers worker count : ℕ) (places : List ℕ) : Type 0 where
  pub of_worker : (k place : ℕ) → slice_get places k ≡ Some place → (place < count) × (place % workers ≡ worker)
  pub each : (place : ℕ) → place < count → place % workers ≡ worker → (k : ℕ) × (slice_get places k ≡ Some place)
  pub rising : (j k first second : ℕ) → j < k → slice_get places j ≡ Some first → slice_get places k ≡ Some second
      → first < second
