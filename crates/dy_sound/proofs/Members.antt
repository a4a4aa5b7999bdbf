-- What is in the lists of the elements of a list.
use Rattle.std.proofs.Common.{List, [], ◌∷◌, Contains, inl, inr, subst}
use Rattle.std.specs.List.{flat_map}
use Rattle.std.proofs.lemmas.List.Elements.{Contains-append_left, Contains-append_right}
use Rattle.dy_sound.proofs.Lists.{Contains-none, Contains-cases}

-- what is in the list of one of the elements is in all lists together
pub Contains-flat_map : {A B : Type 0} (f : A → List B) (xs : List A) (x : A) (y : B) → Contains xs x → Contains (f x) y → Contains (flat_map f xs) y
Contains-flat_map f [] x y stands part = absurd (Contains-none x stands)
Contains-flat_map f (z ∷ zs) x y stands part = elim (Contains-cases z zs x stands) [
  | inl same ↦ Contains-append_left (f z) (flat_map f zs) y (subst (λ w. Contains (f w) y) (cc same) part)
  | inr later ↦ Contains-append_right (f z) (flat_map f zs) y (Contains-flat_map f zs x y later part)
]
