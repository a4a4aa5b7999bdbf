-- Histories, as lists of items.
use Rattle.std.specs.Prelude.{◌≡◌, nat_lt, List, [], ◌∷◌, ◌++◌, length, if◌then◌else◌}

module _ {I : Type 0} where
  -- the longer of two histories, and the first where they are as long
  abbrev pub longer_of : List I → List I → List I
  longer_of log other = if nat_lt (length log) (length other) then other else log

  -- the other one
  abbrev pub shorter_of : List I → List I → List I
  shorter_of log other = if nat_lt (length log) (length other) then log else other

  -- the history after is the one before and one item more
  abbrev pub GrowsByOne : List I → List I → Type 0
  GrowsByOne before after = (item : I) × (after ≡ before ++ item ∷ [])
