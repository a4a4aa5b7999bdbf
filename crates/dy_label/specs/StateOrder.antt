-- The order in which states are looked up.
use Rattle.std.specs.Prelude.{ℕ, Bool, true, ◌&&◌, ◌||◌, ◌==◌, nat_lt, Option, Some, None}

-- A session, and a version of its state. Look-ups go by rising sessions and, within one, by falling versions.
abbrev pub comes_before : ℕ × ℕ → ℕ × ℕ → Bool
comes_before a b = nat_lt a.0 b.0 || ((a.0 == b.0) && nat_lt b.1 a.1)

-- The second comes after the first, if a first is given.
abbrev pub is_after : Option (ℕ × ℕ) → ℕ × ℕ → Bool
is_after None at = true
is_after (Some from) at = comes_before from at
