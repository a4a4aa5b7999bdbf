-- What one call appends to a history that others append to as well.
use Rattle.std.specs.Prelude.{◌≡◌, List, [], ◌∷◌, ◌++◌, length}

-- The list after begins with the one before. Its last item is this one, and what lies between was appended by others.
pub record EndsWith {I : Type 0} (before after : List I) (item : I) : Type 0 where
  pub others : List I
  pub is : after ≡ (before ++ others) ++ item ∷ []
