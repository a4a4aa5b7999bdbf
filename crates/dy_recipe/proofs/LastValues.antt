-- The last of some values, as it is taken from them.
use Rattle.std.proofs.Common.{◌≡◌, ◌+◌, ℕ, List, [], ◌∷◌, ◌++◌, Option, Some, None, length, refl, ap, sym, ◌∙◌, arith}
use Rattle.std.specs.Prelude.{MatchOption, option_to_list}
use Rattle.dy_term.specs.Terms.{Term}
use Rattle.dy_recipe.specs.Values.{last_of}

pub last_after : (values : List Term) (value : Term) → last_of (values ++ value ∷ []) ≡ Some value
last_after [] value = refl
last_after (x ∷ []) value = refl
last_after (x ∷ y ∷ more) value = last_after (y ∷ more) value

-- What is taken from the end of a list is the last of it.
pub taken_last : (old new : List Term) (value : Option Term) (n m : ℕ) → length old ≡ n → old ≡ new ++ option_to_list value → MatchOption value ((n ≡ 0) × (m ≡ 0)) (λ _. m + 1 ≡ n) → value ≡ last_of old
taken_last old new (Some value) n m len is cases = sym (ap last_of is ∙ last_after new value)
taken_last [] new None n m len is cases = refl
taken_last (x ∷ more) new None n m len is cases = let bad : ⊥ = omega (arith, len, cases.0) in absurd bad
