-- The term that the code keeps for `self` is the name of the principal.
use Rattle.std.specs.Prelude.{◌≡◌, ℕ, List}
use Rattle.std.specs.Coded.{Coded-set}
use Rattle.dy_term.specs.Terms.{Term, Name}
use Rattle.dy_flat.specs.MirrorCodes.{term_code}

abbrev pub IsSelf : Term → List ℕ → Type 0
IsSelf term principal = term ≡ Name principal

pub IsSelf-prop : (term : Term) (principal : List ℕ) → IsProp (IsSelf term principal)
IsSelf-prop term principal = Coded-set term_code _ _
