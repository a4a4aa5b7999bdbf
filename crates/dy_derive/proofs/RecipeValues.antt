-- The recipes that are made have the values that they should.
use Rattle.std.proofs.Common.{◌≡◌, ℕ, zero, suc, ◌+◌, ◌-◌, ◌<◌, ◌≤◌, ◌==◌, Bool, true, false, List, [], ◌∷◌, Some, None, if◌then◌else◌, refl, sym, arith, length, take, ap, ◌∙◌}
use Rattle.std.specs.List.{slice_get}
use Rattle.std.proofs.lemmas.Bool.{eqb-false}
use Rattle.std.proofs.lemmas.Option.{slice_get_within}
use Rattle.std.proofs.lemmas.List.{length-take-le}
use Rattle.dy_term.specs.Terms.{Term}
use Rattle.dy_recipe.specs.Moves.{Move, Leaves}
use Rattle.dy_recipe.specs.Values.{value_at, move_value, last_of, recipe_value}
use Rattle.dy_recipe.proofs.ValuesByPlaces.{value_found}
use Rattle.dy_derive.specs.MirrorRecipes.{HaveValues}
use Rattle.dy_derive.proofs.LogValues.{slice_get_take, take_take}

last_at : (values : List Term) (k : ℕ) (value : Term) → length values ≡ k + 1 → slice_get values k ≡ Some value → last_of values ≡ Some value
last_at [] k value same at = absurd cc
last_at (x ∷ []) zero value same at = at
last_at (x ∷ []) (suc k) value same at = absurd cc
last_at (x ∷ y ∷ more) zero value same at = absurd (omega (arith, same))
last_at (x ∷ y ∷ more) (suc k) value same at = last_at (y ∷ more) k value (omega (arith, same)) at

module _ (leaves : Leaves) (moves : List Move) (values : List Term) (have : HaveValues leaves moves values) where
  cut_at : (k : ℕ) (value : Term) → slice_get values k ≡ Some value → recipe_value leaves (take (k + 1) moves) ≡ Some value
  cut_at k value at =
      let within : k < length values = slice_get_within values k value at in
      let few : k + 1 ≤ length moves = omega (arith, have.each) in
      let each : length (take (k + 1) values) ≡ k + 1 = length-take-le (k + 1) values (omega arith) in
      value_found leaves (take (k + 1) moves) value (record {
        values = take (k + 1) values;
        each = each ∙ sym (length-take-le (k + 1) moves few);
        over = over few;
        last = last_at (take (k + 1) values) k value each (slice_get_take values (k + 1) k (omega arith) ∙ at);
      }) where
        over : k + 1 ≤ length moves → (i : ℕ) (move : Move) → slice_get (take (k + 1) moves) i ≡ Some move → slice_get (take (k + 1) values) i ≡ move_value leaves (take i (take (k + 1) values)) move
        over few i move at =
            let below : i < k + 1 = omega (arith, slice_get_within (take (k + 1) moves) i move at, length-take-le (k + 1) moves few) in
            slice_get_take values (k + 1) i below ∙ have.over i move (sym (slice_get_take moves (k + 1) i below) ∙ at)
            ∙ ap (λ vs. move_value leaves vs move) (sym (take_take values (k + 1) i (omega arith)))

  -- The moves up to a number have as their value what the number names.
  pub cut_recipe : (number : ℕ) (value : Term) → value_at values number ≡ Some value → recipe_value leaves (take number moves) ≡ Some value
  cut_recipe number value at = by (number == 0) refl at where
    by : (b : Bool) → (number == 0) ≡ b → (if b then None else slice_get values (number - 1)) ≡ Some value → recipe_value leaves (take number moves) ≡ Some value
    by true is e = absurd cc
    by false is e =
        let positive : number ≡ (number - 1) + 1 = omega (arith, eqb-false number 0 is) in
        ap (λ n. recipe_value leaves (take n moves)) positive ∙ cut_at (number - 1) value e
