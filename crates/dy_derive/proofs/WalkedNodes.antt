-- The nodes of a whole walk, interned one after another.
use Rattle.std.proofs.Common.{◌≡◌, ℕ, ◌+◌, ◌-◌, ◌<◌, ◌≤◌, List, [], ◌∷◌, ◌++◌, length, Some, None, inl, inr, refl, ap, sym, ◌∙◌, subst, arith, length-append}
use Rattle.std.specs.List.{slice_get, All}
use Rattle.std.specs.Prelude.{slice_index}
use Rattle.std.proofs.lemmas.List.Elements.{All-nil}
use Rattle.std.proofs.lemmas.Option.{get_or_from_slice_get, slice_get_cases}
use Rattle.dy_term.specs.Terms.{Term, size}
use Rattle.dy_term.specs.declared.limits.TheConstants.{MAX_NODES}
use Rattle.dy_flat.specs.Walks.{Step, terms_by_steps, walk_of, steps_of}
use Rattle.dy_flat.proofs.WalkedTerms.{all_terms, ends}
use Rattle.dy_entry.proofs.Traces.{slice_get-end}
use Rattle.dy_derive.specs.declared.deductions.Deductions.{Deductions}
use Rattle.dy_derive.specs.Nodes.{IsTermAt}
use Rattle.dy_derive.specs.MirrorKnowledge.{Grows, AreAny, AreTermsAt}
use Rattle.dy_derive.specs.MirrorSteps.{AreEarlier, AddsTerm, KeepsTerms}
use Rattle.dy_derive.proofs.GrownDeductions.{grows_none}
use Rattle.dy_derive.proofs.GivenFacts.{grows_weaker}
use Rattle.dy_derive.proofs.StepNodes.{are_earlier, number_term}
use Rattle.dy_derive.proofs.StepsInterned.{IsWalked, next_step}

-- at the start
pub walk_starts : (now : Deductions) (rest : List Step) (whole : Term) → rest ≡ steps_of whole → IsWalked now now [] rest whole
walk_starts now rest whole is = record {
  terms = [];
  each = refl;
  rest_is = ap (terms_by_steps []) is ∙ all_terms whole;
  below = All-nil (λ number. number < length now.nodes.keys);
  grown = grows_none now (AreTermsAt [] []) (λ facts T deduced. refl);
}

module _ (start now : Deductions) (numbers : List ℕ) (step : Step) (all rest : List Step) (whole : Term) (small : size whole ≤ MAX_NODES)
    (left : all ≡ step ∷ rest) (walked : IsWalked start now numbers all whole) where
  at_step : IsWalked start now numbers (step ∷ rest) whole
  at_step = subst (λ (steps : List Step). IsWalked start now numbers steps whole) left walked

  -- the parts of the next step were before it
  pub walk_earlier : AreEarlier (length numbers) step
  walk_earlier =
      let next = next_step start now numbers step rest whole small at_step in
      are_earlier at_step.terms (length numbers) step next.0 at_step.each next.1.0.is

  -- after one step more
  pub walk_goes_on : (new : Deductions) (more : List ℕ) → length more ≡ length numbers + 1 → All (λ number. number < length new.nodes.keys) more
      → AddsTerm now new numbers more step → IsWalked start new more rest whole
  walk_goes_on new more one below adds =
      let next = next_step start now numbers step rest whole small at_step in
      record {
        terms = at_step.terms ++ next.0 ∷ [];
        each = length-append at_step.terms (next.0 ∷ []) ∙ ap (λ n. n + 1) at_step.each ∙ sym one;
        rest_is = next.1.1;
        below = below;
        grown = adds start at_step.terms next.0 next.1.0;
      }

  -- after a step that was not interned
  pub walk_stops : (new : Deductions) → KeepsTerms now new numbers step → Grows start new AreAny
  walk_stops new keeps =
      let next = next_step start now numbers step rest whole small at_step in
      keeps start at_step.terms next.0 next.1.0

module _ (start now : Deductions) (numbers : List ℕ) (rest : List Step) (whole : Term) (left : rest ≡ []) (walked : IsWalked start now numbers rest whole) where
  at_end : IsWalked start now numbers [] whole
  at_end = subst (λ (steps : List Step). IsWalked start now numbers steps whole) left walked

  all_of : at_end.terms ≡ walk_of whole
  all_of = let is = at_end.rest_is in cc

  -- the last number is that of the term itself
  pub walk_counts : length numbers ≡ length (ends whole).0 + 1
  walk_counts = sym at_end.each ∙ ap length (all_of ∙ (ends whole).1) ∙ length-append (ends whole).0 (whole ∷ [])

  pub walk_has_last : None ≡ slice_get numbers (length numbers - 1) → ⊥
  walk_has_last none = elim (slice_get_cases numbers (length numbers - 1)).1 [
    | inl found ↦ let some = found.2 in absurd (cc)
    | inr past ↦ absurd (omega (arith, past.0, walk_counts))
  ]

  pub walk_ends : (number : ℕ) → Some number ≡ slice_get numbers (length numbers - 1) → Grows start now (λ facts. IsTermAt facts number whole)
  walk_ends number last =
      let parts = (ends whole).0 in
      let at : slice_get at_end.terms (length parts) ≡ Some whole =
      ap (λ list. slice_get list (length parts)) (all_of ∙ (ends whole).1) ∙ slice_get-end parts whole in
      let place : length numbers - 1 ≡ length parts = omega (arith, walk_counts) in
      let is : number ≡ slice_index numbers (length parts) =
      sym (get_or_from_slice_get numbers (length numbers - 1) number 0 (sym last)) ∙ ap (slice_index numbers) place in
      grows_weaker start now (AreTermsAt numbers at_end.terms) (λ facts. IsTermAt facts number whole) at_end.grown
      (λ facts are. subst (λ (n : ℕ). IsTermAt facts n whole) (sym is) (number_term facts numbers at_end.terms are at_end.each (length parts) whole at))
