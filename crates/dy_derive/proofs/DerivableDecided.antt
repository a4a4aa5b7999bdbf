-- A recipe that is made gives its term, and where there is none the term is not derived.
use Rattle.std.proofs.Common.{◌≡◌, ℕ, zero, suc, ◌+◌, ◌<◌, ◌≤◌, List, [], ◌∷◌, ◌++◌, Option, Some, None, refl, sym, subst, arith, length, take, ap, ◌∙◌}
use Rattle.std.specs.Option.{option_map}
use Rattle.std.proofs.lemmas.List.{append-nil, length-map, length-take-le}
use Rattle.std.proofs.lemmas.Option.{slice_get_within}
use Rattle.dy_term.specs.Terms as terms
use Rattle.dy_term.specs.Terms.{Term}
use Rattle.dy_entry.specs.Entries.{Entry}
use Rattle.dy_entry.specs.Attacker.{Derives}
use Rattle.dy_recipe.specs.Moves.{Move}
use Rattle.dy_recipe.specs.Values.{value_at, recipe_value}
use Rattle.dy_recipe.specs.Trimming.{KeepsValue}
use Rattle.dy_traces.specs.Given.{given_by}
use Rattle.dy_chains.specs.declared.logs.Step.{Step}
use Rattle.dy_chains.specs.Logs.{place_of, facts_of}
use Rattle.dy_chains.specs.Chains.{IsChain}
use Rattle.dy_derive.specs.declared.deductions.Deductions.{Deductions}
use Rattle.dy_derive.specs.declared.term_moves.Found.{Found}
use Rattle.dy_derive.specs.Facts.{Fact, Derived}
use Rattle.dy_derive.specs.Nodes.{IsTermAt, term_at}
use Rattle.dy_derive.specs.Saturation.{Built, IsPart, IsHad}
use Rattle.dy_derive.specs.MirrorKnowledge.{IsDeduced}
use Rattle.dy_derive.specs.MirrorRecipes.{AreLogMoves, HaveValues, log_values}
use Rattle.dy_derive.specs.MirrorTerms.{HasMove, HaveLogValues, IsBuilt}
use Rattle.dy_derive.proofs.Saturated.{built_part_is_had, derived_is_built}
use Rattle.dy_derive.proofs.FactsSaturated.{facts_saturated, facts_given}
use Rattle.dy_derive.proofs.InferredValues.{value_after}
use Rattle.dy_derive.proofs.LogValues.{log_moves_have_values, slice_get_take, stands_at}
use Rattle.dy_derive.proofs.TermMoves.{log_value, log_number_lacks}
use Rattle.dy_derive.proofs.RecipeValues.{cut_recipe}

take_all : (xs : List Term) (n : ℕ) → length xs ≡ n → take n xs ≡ xs
take_all [] n same = none n where
  none : (k : ℕ) → take {A = Term} k [] ≡ []
  none zero = refl
  none (suc k) = refl
take_all (x ∷ xs) zero same = absurd (omega (arith, same))
take_all (x ∷ xs) (suc n) same = ap (λ ys. x ∷ ys) (take_all xs n (omega (arith, same)))

module _ (d : Deductions) (T : List Entry) (facts : List Fact) (chain : IsChain d.chain.chain) (deduced : IsDeduced d facts T) where
  -- What is derived is built of what follows.
  pub derived_is_built_here : (term : Term) → Derives T term → Built (IsHad facts d.chain.chain.log) term
  derived_is_built_here term derived =
      derived_is_built (IsPart facts) (IsHad facts d.chain.chain.log)
      (facts_saturated T d.nodes.keys facts d.chain.chain.rules d.chain.reasons.items d.chain.chain.log deduced.table deduced.rules chain.complete)
      T (facts_given T d.nodes.keys facts d.chain.chain.rules d.chain.reasons.items d.chain.chain.log deduced.table deduced.rules chain.complete) term derived

  -- A part that is derived follows.
  pub derived_part_is_had : (term : Term) → IsPart facts term → Derives T term → IsHad facts d.chain.chain.log term
  derived_part_is_had term part derived =
      built_part_is_had (IsPart facts) (IsHad facts d.chain.chain.log)
      (facts_saturated T d.nodes.keys facts d.chain.chain.rules d.chain.reasons.items d.chain.chain.log deduced.table deduced.rules chain.complete)
      term part (derived_is_built_here term derived)

  -- A nonce that is derived is a part.
  pub derived_nonce_is_had : (index : ℕ) → Derives T (terms.Nonce index) → IsHad facts d.chain.chain.log (terms.Nonce index)
  derived_nonce_is_had index derived = derived_is_built_here (terms.Nonce index) derived

  pub no_place_none : (fact : ℕ) (term : Term) → IsTermAt facts fact term → place_of d.chain.chain.log fact ≡ None → Derives T term → ⊥
  no_place_none fact term at none derived =
      log_number_lacks d.chain.chain.rules d.chain.chain.log chain.log facts term (λ n m x y. deduced.table.once n m (Derived term) x y)
      (Some fact) at (ap (option_map (λ place. place + 1)) none) (derived_part_is_had term (fact, at) derived)

  pub log_moves_values : (count : ℕ) (moves : List Move) → count ≤ length d.chain.chain.log
      → AreLogMoves d.nodes.keys d.chain.chain.rules d.chain.reasons.items d.chain.chain.log count moves
      → HaveValues (given_by T) moves (take count (log_values facts d.chain.chain.log))
  log_moves_values count moves within are =
      log_moves_have_values T d.nodes.keys facts d.chain.chain.rules d.chain.reasons.items d.chain.chain.log deduced.table deduced.rules chain.log count moves within are

  -- The moves up to that of a fact give its term.
  pub place_gives : (fact place number : ℕ) (term : Term) (lent : List Step) (moves recipe : List Move) → IsTermAt facts fact term
      → place_of d.chain.chain.log fact ≡ Some place → number ≡ place + 1 → lent ≡ d.chain.chain.log
      → AreLogMoves d.nodes.keys d.chain.chain.rules d.chain.reasons.items d.chain.chain.log (length (take number lent)) moves
      → KeepsValue (take number moves) recipe → recipe_value (given_by T) recipe ≡ Some term
  place_gives fact place number term lent moves recipe at found next whole are keeps =
      let log = d.chain.chain.log in
      let below : place < length (facts_of log) = slice_get_within (facts_of log) place fact (stands_at d.chain.chain.rules log chain.log place fact found) in
      let within : number ≤ length log = omega (arith, next, length-map log (λ step. step.fact)) in
      let count : length (take number lent) ≡ number = ap (λ steps. length (take number steps)) whole ∙ length-take-le number log within in
      let values : List Term = take number (log_values facts log) in
      let has : HaveValues (given_by T) moves values =
      log_moves_values number moves within
      (subst (λ (n : ℕ). AreLogMoves d.nodes.keys d.chain.chain.rules d.chain.reasons.items log n moves) count are) in
      let value : value_at values number ≡ Some term =
      ap (value_at values) next ∙ value_after values place term (slice_get_take (log_values facts log) number place (omega (arith, next))
      ∙ log_value d.chain.chain.rules log chain.log facts term fact place at found) in
      keeps (given_by T) term (cut_recipe (given_by T) moves values has number term value)

  -- The moves of the whole log have its values.
  pub whole_log : (moves : List Move) → AreLogMoves d.nodes.keys d.chain.chain.rules d.chain.reasons.items d.chain.chain.log (length d.chain.chain.log) moves
      → HaveLogValues T facts d.chain.chain.log moves (log_values facts d.chain.chain.log)
  whole_log moves are = record {
    have = subst (λ (vs : List Term). HaveValues (given_by T) moves vs) all (log_moves_values (length d.chain.chain.log) moves (omega arith) are);
    extra = [];
    begins = sym (append-nil (log_values facts d.chain.chain.log));
  } where
    all : take (length d.chain.chain.log) (log_values facts d.chain.chain.log) ≡ log_values facts d.chain.chain.log
    all = take_all (log_values facts d.chain.chain.log) (length d.chain.chain.log) (length-map d.chain.chain.log (λ step. term_at facts step.fact))

  -- ---- what was found of a term

  pub found_gives : (moves recipe : List Move) (values : List Term) (term : Term) (found : Found) (number : ℕ) → IsBuilt T facts d.chain.chain.log moves values term found
      → found.number ≡ Some number → KeepsValue (take number moves) recipe → recipe_value (given_by T) recipe ≡ Some term
  found_gives moves recipe values term found number built is keeps =
      keeps (given_by T) term (cut_recipe (given_by T) moves (values ++ built.more) built.moves.have number term
      (subst (λ (o : Option ℕ). HasMove facts d.chain.chain.log (values ++ built.more) term o) is built.found_there.number))

  pub found_none : (moves : List Move) (values : List Term) (term : Term) (found : Found) → IsBuilt T facts d.chain.chain.log moves values term found
      → found.number ≡ None → Derives T term → ⊥
  found_none moves values term found built is derived =
      subst (λ (o : Option ℕ). HasMove facts d.chain.chain.log (values ++ built.more) term o) is built.found_there.number (derived_is_built_here term derived)
