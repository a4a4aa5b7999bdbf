-- The place of each fact in a log that gains a step.
use Rattle.std.proofs.Common.{◌≡◌, ℕ, zero, suc, ◌+◌, ◌<◌, ◌≤◌, ◌==◌, Bool, false, List, [], ◌∷◌, ◌++◌, length, replicate, Option, Some, None, ◌⊎◌, inl, inr, refl, ap, sym, ◌∙◌, arith, eq-eqb, eqb-true, get_or, is_some, ◌↔◌, IsTrue}
use Rattle.std.proofs.lemmas.Bool.{cases_eq}
use Rattle.std.proofs.Math.ListN.{set, length-set}
use Rattle.std.proofs.lemmas.List.{length-map, map-append, length-append, length-replicate}
use Rattle.std.proofs.lemmas.Option.{slice_get-get_or}
use Rattle.std.specs.List.{slice_get, position}
use Rattle.dy_chains.specs.declared.logs.Step.{Step}
use Rattle.dy_chains.specs.Logs.{facts_of, place_of, IsAt, IsLogged}
use Rattle.dy_chains.specs.MirrorLogs.{missing, HasPlaces}
use Rattle.dy_chains.proofs.Lists.{in_longer, in_last, in_shorter, in_more, in_either, none_passes, none_found, found_passes, found_in_longer, found_last}

differ : (a b : ℕ) → (a ≡ b → ⊥) → (a == b) ≡ false
differ a b not = grind arith

pub place_stands : (log : List Step) (fact place : ℕ) → place_of log fact ≡ Some place → IsAt log place fact
place_stands log fact place some =
    let found = found_passes (λ (other : ℕ). other == fact) (facts_of log) place some in
    found.1 ∙ ap Some (eqb-true found.0 fact found.2)

pub no_place : (log : List Step) (fact place : ℕ) → place_of log fact ≡ None → IsAt log place fact → ⊥
no_place log fact place none at =
    let fails = none_passes (λ (other : ℕ). other == fact) (facts_of log) none place fact at in
    let same = eq-eqb fact fact refl in
    cc

found_by : (o : Option ℕ) → (o ≡ None → ⊥) → (first : ℕ) × (o ≡ Some first)
found_by None not = absurd (not refl)
found_by (Some first) not = (first, refl)

-- what stands in the log has a place
pub has_place : (log : List Step) (fact place : ℕ) → IsAt log place fact → (first : ℕ) × (place_of log fact ≡ Some first)
has_place log fact place at = found_by (place_of log fact) (λ none. no_place log fact place none at)

facts-append : (log more : List Step) → facts_of (log ++ more) ≡ facts_of log ++ facts_of more
facts-append log more = map-append (λ (step : Step). step.fact) log more

pub place_in_longer : (log more : List Step) (fact place : ℕ) → place_of log fact ≡ Some place → place_of (log ++ more) fact ≡ Some place
place_in_longer log more fact place some =
    ap (position (λ (other : ℕ). other == fact)) (facts-append log more)
    ∙ found_in_longer (λ (other : ℕ). other == fact) (facts_of log) (facts_of more) place some

pub at_in_longer : (log more : List Step) (place fact : ℕ) → IsAt log place fact → IsAt (log ++ more) place fact
at_in_longer log more place fact at =
    ap (λ (facts : List ℕ). slice_get facts place) (facts-append log more) ∙ in_longer (facts_of log) (facts_of more) place fact at

pub length-facts : (log : List Step) → length (facts_of log) ≡ length log
length-facts log = length-map log (λ (step : Step). step.fact)

pub at_in_shorter : (log more : List Step) (place fact : ℕ) → place < length log → IsAt (log ++ more) place fact → IsAt log place fact
at_in_shorter log more place fact within at =
    let long = length-facts log in
    in_shorter (facts_of log) (facts_of more) place fact (omega (arith, long)) (sym (ap (λ (facts : List ℕ). slice_get facts place) (facts-append log more)) ∙ at)

-- what stands in the log with one step more stood there, or is of that step
pub at_in_more : (log : List Step) (step : Step) (place fact : ℕ) → IsAt (log ++ step ∷ []) place fact
    → IsAt log place fact ⊎ ((place ≡ length log) × (step.fact ≡ fact))
at_in_more log step place fact at =
    elim (in_more (facts_of log) step.fact place fact (sym (ap (λ (facts : List ℕ). slice_get facts place) (facts-append log (step ∷ []))) ∙ at)) [
      | inl before ↦ inl before
      | inr last ↦ inr (last.0 ∙ length-facts log, last.1)
    ]

pub at_last : (log : List Step) (step : Step) → IsAt (log ++ step ∷ []) (length log) step.fact
at_last log step =
    ap (λ (facts : List ℕ). slice_get facts (length log)) (facts-append log (step ∷ []))
    ∙ ap (slice_get (facts_of log ++ step.fact ∷ [])) (sym (length-facts log)) ∙ in_last (facts_of log) step.fact

-- the place of the fact of a new step is its own
pub place_of_last : (log : List Step) (step : Step) → place_of log step.fact ≡ None → place_of (log ++ step ∷ []) step.fact ≡ Some (length log)
place_of_last log step none =
    ap (position (λ (other : ℕ). other == step.fact)) (facts-append log (step ∷ []))
    ∙ found_last (λ (other : ℕ). other == step.fact) (facts_of log) step.fact none (eq-eqb step.fact step.fact refl)
    ∙ ap Some (length-facts log)

pub no_place_if : (log : List Step) (fact : ℕ) → ((place : ℕ) → IsAt log place fact → ⊥) → place_of log fact ≡ None
no_place_if log fact never =
    none_found (λ (other : ℕ). other == fact) (facts_of log) (λ place other at. differ other fact (λ same. never place (at ∙ ap Some same)))

place_as_before : (log : List Step) (step : Step) (fact : ℕ) → (step.fact ≡ fact → ⊥) → (o : Option ℕ) → place_of log fact ≡ o
    → place_of (log ++ step ∷ []) fact ≡ place_of log fact
place_as_before log step fact other None none =
    no_place_if (log ++ step ∷ []) fact (λ place at. elim (at_in_more log step place fact at) [
      | inl before ↦ no_place log fact place none before
      | inr last ↦ other last.1
    ]) ∙ sym none
place_as_before log step fact other (Some place) some = place_in_longer log (step ∷ []) fact place some ∙ sym some

-- and that of each other fact is as before
pub place_of_other : (log : List Step) (step : Step) (fact : ℕ) → (step.fact ≡ fact → ⊥) → place_of (log ++ step ∷ []) fact ≡ place_of log fact
place_of_other log step fact other = place_as_before log step fact other (place_of log fact) refl

missing-set : (places : List (Option ℕ)) (fact place : ℕ) → slice_get places fact ≡ Some None → missing (set places fact (Some place)) + 1 ≡ missing places
missing-set [] fact place at = absurd cc
missing-set (None ∷ places) zero place at = refl
missing-set (Some first ∷ places) zero place at = absurd cc
missing-set (None ∷ places) (suc fact) place at = ap (λ (n : ℕ). n + 1) (missing-set places fact place at)
missing-set (Some first ∷ places) (suc fact) place at = missing-set places fact place at

missing-more : (places : List (Option ℕ)) (more : ℕ) → missing (places ++ replicate more None) ≡ missing places + more
missing-more [] zero = refl
missing-more [] (suc more) = let rest = missing-more [] more in omega (arith, rest)
missing-more (None ∷ places) more = let rest = missing-more places more in omega (arith, rest)
missing-more (Some place ∷ places) more = missing-more places more

at_set : {A : Type 0} (xs : List A) (i : ℕ) (x y : A) → slice_get (set xs i x) i ≡ Some y → y ≡ x
at_set [] i x y at = absurd cc
at_set (z ∷ xs) zero x y at = cc
at_set (z ∷ xs) (suc i) x y at = at_set xs i x y at

at_other : {A : Type 0} (xs : List A) (i k : ℕ) (x : A) → (i ≡ k → ⊥) → slice_get (set xs i x) k ≡ slice_get xs k
at_other [] i k x other = refl
at_other (z ∷ xs) zero zero x other = absurd (other refl)
at_other (z ∷ xs) zero (suc k) x other = refl
at_other (z ∷ xs) (suc i) zero x other = refl
at_other (z ∷ xs) (suc i) (suc k) x other = at_other xs i k x (λ same. other (ap suc same))

in_replicate : {A : Type 0} (n : ℕ) (x y : A) (k : ℕ) → slice_get (replicate n x) k ≡ Some y → y ≡ x
in_replicate zero x y k at = absurd cc
in_replicate (suc n) x y zero at = cc
in_replicate (suc n) x y (suc k) at = in_replicate n x y k at

missing_at : (log : List Step) (places : List (Option ℕ)) (fact : ℕ) → fact < length places → place_of log fact ≡ None → HasPlaces log places
    → slice_get places fact ≡ Some None
missing_at log places fact within none has =
    let at = slice_get-get_or places fact None within in
    at ∙ ap Some (sym (has.placed fact (get_or places fact None) at) ∙ none)

-- the places after a new step
pub places_of_more : (log : List Step) (places : List (Option ℕ)) (step : Step) → step.fact < length places → place_of log step.fact ≡ None
    → HasPlaces log places → HasPlaces (log ++ step ∷ []) (set places step.fact (Some (length log)))
places_of_more log places step within none has = record {
  placed = λ fact place at. elim (cases_eq step.fact fact) [
    | inl same ↦
        let here : slice_get (set places step.fact (Some (length log))) step.fact ≡ Some place = ap (slice_get (set places step.fact (Some (length log)))) same ∙ at in
        ap (place_of (log ++ step ∷ [])) (sym same) ∙ place_of_last log step none ∙ sym (at_set places step.fact (Some (length log)) place here)
    | inr other ↦
        place_of_other log step fact other ∙ has.placed fact place (sym (at_other places step.fact fact (Some (length log)) other) ∙ at)
  ];
  none = λ fact beyond.
      let long : length (set places step.fact (Some (length log))) ≡ length places = length-set {A = Option ℕ} places step.fact (Some (length log)) in
      let past : length places ≤ fact = omega (arith, long, beyond) in
      let other : step.fact ≡ fact → ⊥ = λ same. omega (arith, same, past, within) in
      place_of_other log step fact other ∙ has.none fact past;
  each =
      let long : length (set places step.fact (Some (length log))) ≡ length places = length-set {A = Option ℕ} places step.fact (Some (length log)) in
      let steps : length (log ++ step ∷ []) ≡ length log + 1 = length-append log (step ∷ []) in
      let before = has.each in
      let fewer = missing-set places step.fact (length log) (missing_at log places step.fact within none has) in
      omega (arith, long, steps, before, fewer);
}

-- the places of more facts, none of which follows yet
pub places_of_facts : (log : List Step) (places : List (Option ℕ)) (more : ℕ) → HasPlaces log places → HasPlaces log (places ++ replicate more None)
places_of_facts log places more has = record {
  placed = λ fact place at. elim (in_either places (replicate more None) fact place at) [
    | inl before ↦ has.placed fact place before
    | inr after ↦
        let index = after.1 in
        has.none fact (omega (arith, index)) ∙ sym (in_replicate more None place after.0 after.2)
  ];
  none = λ fact beyond.
      let long : length (places ++ replicate more None) ≡ length places + length (replicate {A = Option ℕ} more None) = length-append places (replicate more None) in
      has.none fact (omega (arith, long, beyond));
  each =
      let long : length (places ++ replicate more None) ≡ length places + length (replicate {A = Option ℕ} more None) = length-append places (replicate more None) in
      let added : length (replicate {A = Option ℕ} more None) ≡ more = length-replicate {A = Option ℕ} more None in
      let before = has.each in
      let rest = missing-more places more in
      omega (arith, long, added, before, rest);
}

-- Some fact is logged exactly where it has a place.
pub placed_logged : (log : List Step) (fact : ℕ) (place : Option ℕ) (has : Bool) → place ≡ place_of log fact → has ≡ is_some place → IsTrue has ↔ IsLogged log fact
placed_logged log fact None has none is =
    (λ true. absurd cc, λ logged. absurd (no_place log fact logged.0 (sym none) logged.1))
placed_logged log fact (Some place) has some is = (λ true. (place, place_stands log fact place (sym some)), λ logged. is)

-- Some place of the log is free as long as some fact has none.
pub room_for : (log : List Step) (places : List (Option ℕ)) (fact : ℕ) → fact < length places → place_of log fact ≡ None → HasPlaces log places
    → length log < length places
room_for log places fact within none has =
    let before = has.each in
    let fewer = missing-set places fact 0 (missing_at log places fact within none has) in
    omega (arith, before, fewer)
