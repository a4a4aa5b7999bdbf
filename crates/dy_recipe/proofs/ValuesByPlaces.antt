-- The values of moves, one by one and by places.
use Rattle.std.proofs.Common.{◌≡◌, ℕ, zero, suc, List, [], ◌∷◌, ◌++◌, Some, None, length, take, refl, ap, sym, ◌∙◌, arith}
use Rattle.std.proofs.lemmas.List.{append-nil, append_assoc}
use Rattle.std.specs.Prelude.{slice_get}
use Rattle.std.specs.Option.{option_and_then}
use Rattle.dy_term.specs.Terms.{Term}
use Rattle.dy_recipe.specs.Moves.{Move, Leaves}
use Rattle.dy_recipe.specs.Values.{move_value, move_values, last_of, recipe_value}
use Rattle.dy_recipe.specs.Places.{HasValue}

-- The values of moves after earlier values: one for each, that of its move over all values before it.
record Follow (leaves : Leaves) (earlier : List Term) (moves : List Move) (more : List Term) : Type 0 where
  each : length more ≡ length moves
  over : (i : ℕ) (move : Move) → slice_get moves i ≡ Some move → slice_get more i ≡ move_value leaves (earlier ++ take i more) move

over_first : (leaves : Leaves) (earlier : List Term) (move : Move) (moves : List Move) (value : Term) (more : List Term) → move_value leaves earlier move ≡ Some value → Follow leaves (earlier ++ value ∷ []) moves more → (i : ℕ) (m : Move) → slice_get (move ∷ moves) i ≡ Some m → slice_get (value ∷ more) i ≡ move_value leaves (earlier ++ take i (value ∷ more)) m
over_first leaves earlier move moves value more made rest zero m at =
    sym made ∙ ap (option_and_then (λ x. move_value leaves earlier x)) at ∙ ap (λ e. move_value leaves e m) (sym (append-nil earlier))
over_first leaves earlier move moves value more made rest (suc i) m at =
    rest.over i m at ∙ ap (λ e. move_value leaves e m) (append_assoc earlier (value ∷ []) (take i more))

-- a move before others
before : (leaves : Leaves) (earlier : List Term) (move : Move) (moves : List Move) (value : Term) (more : List Term) → move_value leaves earlier move ≡ Some value → Follow leaves (earlier ++ value ∷ []) moves more → Follow leaves earlier (move ∷ moves) (value ∷ more)
before leaves earlier move moves value more made rest = record { each = ap suc rest.each; over = over_first leaves earlier move moves value more made rest }

-- the others after a move
after : (leaves : Leaves) (earlier : List Term) (move : Move) (moves : List Move) (value : Term) (more : List Term) → Follow leaves earlier (move ∷ moves) (value ∷ more) → Follow leaves (earlier ++ value ∷ []) moves more
after leaves earlier move moves value more all = record {
  each = omega (arith, all.each);
  over = λ i m at. all.over (suc i) m at ∙ ap (λ e. move_value leaves e m) (sym (append_assoc earlier (value ∷ []) (take i more)));
}

none_at : (leaves : Leaves) (earlier : List Term) (i : ℕ) (move : Move) → slice_get [] i ≡ Some move → slice_get [] i ≡ move_value leaves (earlier ++ take i []) move
none_at leaves earlier zero move at = (cc)
none_at leaves earlier (suc i) move at = (cc)

abbrev Following : Leaves → List Term → List Move → List Term → Type 0
Following leaves earlier moves values = (more : List Term) × (values ≡ earlier ++ more) × Follow leaves earlier moves more

follow : (leaves : Leaves) (earlier : List Term) (moves : List Move) (values : List Term) → move_values leaves earlier moves ≡ Some values → Following leaves earlier moves values
follow leaves earlier [] values is = let same : earlier ≡ values = (cc) in ([], sym same ∙ sym (append-nil earlier), record { each = refl; over = none_at leaves earlier })
follow leaves earlier (move ∷ moves) values is =
    elim (move_value leaves earlier move) as (λ v. move_value leaves earlier move ≡ v → option_and_then (λ value. move_values leaves (earlier ++ value ∷ []) moves) v ≡ Some values → Following leaves earlier (move ∷ moves) values) [
      | None ↦ λ made none. let bad : ⊥ = (cc) in absurd bad
      | Some value ↦ λ made rest.
          let more = follow leaves (earlier ++ value ∷ []) moves values rest in
          (value ∷ more.0, more.1 ∙ append_assoc earlier (value ∷ []) more.0, before leaves earlier move moves value more.0 made more.2)
    ] refl is

followed : (leaves : Leaves) (earlier : List Term) (moves : List Move) (more : List Term) → Follow leaves earlier moves more → move_values leaves earlier moves ≡ Some (earlier ++ more)
followed leaves earlier [] [] all = ap Some (sym (append-nil earlier))
followed leaves earlier [] (value ∷ more) all = let bad : ⊥ = omega (arith, all.each) in absurd bad
followed leaves earlier (move ∷ moves) [] all = let bad : ⊥ = omega (arith, all.each) in absurd bad
followed leaves earlier (move ∷ moves) (value ∷ more) all =
    let made : move_value leaves earlier move ≡ Some value = ap (λ e. move_value leaves e move) (sym (append-nil earlier)) ∙ sym (all.over 0 move refl) in
    ap (option_and_then (λ v. move_values leaves (earlier ++ v ∷ []) moves)) made
    ∙ followed leaves (earlier ++ value ∷ []) moves more (after leaves earlier move moves value more all)
    ∙ ap Some (append_assoc earlier (value ∷ []) more)

pub places : (leaves : Leaves) (moves : List Move) (value : Term) → recipe_value leaves moves ≡ Some value → HasValue leaves moves value
places leaves moves value is =
    elim (move_values leaves [] moves) as (λ made. move_values leaves [] moves ≡ made → option_and_then last_of made ≡ Some value → HasValue leaves moves value) [
      | None ↦ λ made none. let bad : ⊥ = (cc) in absurd bad
      | Some values ↦ λ made last.
          let all = follow leaves [] moves values made in
          record { values = all.0; each = all.2.each; over = all.2.over; last = ap last_of (sym all.1) ∙ last }
    ] refl is

pub value_found : (leaves : Leaves) (moves : List Move) (value : Term) → HasValue leaves moves value → recipe_value leaves moves ≡ Some value
value_found leaves moves value has =
    ap (option_and_then last_of) (followed leaves [] moves has.values (record { each = has.each; over = has.over })) ∙ has.last
