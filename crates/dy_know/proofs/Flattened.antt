-- Texts of items that are mapped.
use Rattle.std.proofs.Common.{◌≡◌, ℕ, List, [], ◌∷◌, ◌++◌, map, refl, ap}
use Rattle.std.specs.List.{flat_map, join_by}

pub flat_map-map : {A B : Type 0} (f : B → List ℕ) (g : A → B) (xs : List A) → flat_map f (map g xs) ≡ flat_map (λ x. f (g x)) xs
flat_map-map f g [] = refl
flat_map-map f g (x ∷ xs) = ap (λ (rest : List ℕ). f (g x) ++ rest) (flat_map-map f g xs)

pub join_by-map : {A B : Type 0} (f : B → List ℕ) (g : A → B) (between : List ℕ) (xs : List A) → join_by f between (map g xs) ≡ join_by (λ x. f (g x)) between xs
join_by-map f g between [] = refl
join_by-map f g between (x ∷ xs) = ap (λ (rest : List ℕ). f (g x) ++ rest) (flat_map-map (λ y. between ++ f y) g xs)
