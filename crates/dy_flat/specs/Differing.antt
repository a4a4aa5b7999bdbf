-- When a list has each text once.
use Rattle.std.specs.Prelude.{ℕ, Bool, true, not, ◌&&◌, List, [], ◌∷◌}
use Rattle.std.specs.List.{list_any}
use Rattle.std.specs.Str.{bytes_eq}

-- No two have the same bytes.
abbrev pub all_differ : {A : Type 0} → (A → List ℕ) → List A → Bool
all_differ bytes [] = true
all_differ bytes (one ∷ more) =
    not (list_any (λ other. bytes_eq (bytes one) (bytes other)) more) && all_differ bytes more
