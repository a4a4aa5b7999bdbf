-- Lists that only gain, after what they had.
use Rattle.std.specs.Prelude.{◌≡◌, List, ◌++◌}

-- The new list is the old one and more after it.
abbrev pub Extends : {A : Type 0} → List A → List A → Type 0
Extends {A} old new = (more : List A) × (new ≡ old ++ more)
