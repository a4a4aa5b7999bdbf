-- Reading goes on over bytes and further bytes.
use Rattle.std.proofs.Common.{◌≡◌, ℕ, List, [], ◌∷◌, ◌++◌, Some, None, refl, ap, ◌∙◌, false}
use Rattle.std.specs.Option.{option_and_then}
use Rattle.dy_term.specs.Characters.{is_word_byte}
use Rattle.dy_term.specs.MirrorSteps.{State, Begun, Part, After, state, step, run, whole_part, after_part}

module _ (limit : ℕ) where
  -- a list of bytes is read part by part
  pub run_parts : (s : State) (xs ys : List ℕ) → run limit s (xs ++ ys) ≡ option_and_then (λ t. run limit t ys) (run limit s xs)
  run_parts s [] ys = refl
  run_parts s (x ∷ xs) ys = elim (step limit s x) as (λ o. option_and_then (λ next. run limit next (xs ++ ys)) o ≡ option_and_then (λ t. run limit t ys) (option_and_then (λ next. run limit next xs) o)) [
    | None ↦ refl
    | Some next ↦ run_parts next xs ys
  ]

  -- one part leads to a state, and the other goes on from there
  pub run_through : (s t u : State) (xs ys : List ℕ) → run limit s xs ≡ Some t → run limit t ys ≡ Some u → run limit s (xs ++ ys) ≡ Some u
  run_through s t u xs ys one two = run_parts s xs ys ∙ ap (option_and_then (λ next. run limit next ys)) one ∙ two

  -- The part may end in this state; whatever byte stands after it that belongs to no word is one after a part.
  pub record Finishes (s : State) (part : Part) (begun : List Begun) (nodes : ℕ) : Type 0 where
    pub settles : whole_part limit s.reading s.nodes ≡ Some (part, nodes)
    pub below : s.begun ≡ begun
    pub goes : (b : ℕ) → is_word_byte b ≡ false → step limit s b ≡ after_part part b begun nodes

  -- after a part
  pub finishes_after : (part : Part) (begun : List Begun) (nodes : ℕ) → Finishes (state (After part) begun nodes) part begun nodes
  finishes_after part begun nodes = record { settles = refl; below = refl; goes = λ b none. refl }

  -- a byte after a part, and what follows
  pub leaves : (s : State) (part : Part) (begun : List Begun) (nodes b : ℕ) (rest : List ℕ) (t u : State)
      → Finishes s part begun nodes → is_word_byte b ≡ false → after_part part b begun nodes ≡ Some t → run limit t rest ≡ Some u → run limit s (b ∷ rest) ≡ Some u
  leaves s part begun nodes b rest t u finishes other next more =
      ap (option_and_then (λ n. run limit n rest)) (finishes.goes b other ∙ next) ∙ more
