-- A list that only gains, after what it had.
use Rattle.std.specs.Prelude.{◌≡◌, List, ◌++◌}

pub record Extends {A : Type 0} (old new : List A) : Type 0 where
  pub more : List A
  pub is : new ≡ old ++ more
