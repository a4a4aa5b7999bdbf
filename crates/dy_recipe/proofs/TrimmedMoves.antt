-- A trimmed recipe has the kept moves of the whole one, and no others.
use Rattle.std.proofs.Common.{◌≡◌, ℕ, zero, suc, ◌+◌, ◌-◌, ◌≤◌, inl, inr, Bool, false, List, [], length, get_or, ◌∙◌, ap, arith}
use Rattle.dy_recipe.specs.Moves.{Move}
use Rattle.dy_recipe.specs.Trimming.{IsKept, last, named, IsTrimmed}
use Rattle.dy_recipe.specs.MirrorTrimming.{IsMarked, AreClosed, kept_moves}
use Rattle.dy_recipe.proofs.TrimmedValues.{place_cases}
use Rattle.dy_recipe.proofs.TrimmedNeeds.{marked_less, kept_stands}

-- What is marked is kept. The number says how many later places there are at most.
marked_kept : (moves : List Move) (marks : List Bool) → AreClosed moves marks → (n place : ℕ) → length moves ≤ place + n → IsMarked marks place → IsKept moves place
marked_kept moves marks closed zero place few marked =
    let less = marked_less marks place marked in absurd (omega (arith, less, few, closed.each))
marked_kept moves marks closed (suc n) place few marked =
    elim (place_cases (place + 1) (length moves)) [
      | inl less ↦
          let later = closed.needed place marked less in
          let of_later = marked_kept moves marks closed n later.later (omega (arith, few, later.after)) later.marked in
          named place later.later later.move later.names.0 of_later later.after later.stands later.names.1
      | inr rest ↦ elim rest [
        | inl is ↦ last place is
        | inr more ↦ let less = marked_less marks place marked in absurd (omega (arith, less, more, closed.each))
      ]
    ]

-- What is kept is marked.
kept_marked : (moves : List Move) (marks : List Bool) → AreClosed moves marks → (place : ℕ) → IsKept moves place → IsMarked marks place
kept_marked moves marks closed _ (last place is) =
    let before : place ≡ length moves - 1 = omega (arith, is) in
    ap (λ p. get_or marks p false) before ∙ closed.last (omega (arith, is))
kept_marked moves marks closed _ (named place later move k of_later less stands names) =
    let there = closed.named later move k (place + 1) (omega arith) stands (kept_marked moves marks closed later of_later) names (omega arith) (omega (arith, less)) in
    let before : place ≡ place + 1 - 1 = omega arith in
    ap (λ p. get_or marks p false) before ∙ there

pub is_trimmed : (moves : List Move) (marks : List Bool) → AreClosed moves marks → IsTrimmed moves (kept_moves [] [] moves marks)
is_trimmed moves marks closed =
    let stood = kept_stands moves marks closed in
    let st = stood.1 in
    let keeps = λ (place : ℕ) (marked : IsMarked marks place). marked_kept moves marks closed (length moves) place (omega arith) marked in
    let marked = kept_marked moves marks closed in
    record {
      numbers = stood.0;
      each = st.each;
      kept = λ place is. st.some place (marked place is);
      only = λ place some. keeps place (st.only place some);
      order = λ place later less one other. st.rising place later less (marked place one) (marked later other);
      all = λ number some few.
          let found = st.from (number - 1) (omega (arith, some, few)) in
          let is : number - 1 + 1 ≡ number = omega (arith, some) in
          (found.0, (keeps found.0 found.1.0, found.1.1 ∙ is));
      moves = λ place move is at. st.moves place move (marked place is) at;
    }
