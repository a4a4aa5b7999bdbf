-- The moves of a log have the terms of its facts as their values.
use Rattle.std.proofs.Common.{◌≡◌, ℕ, zero, suc, ◌+◌, ◌<◌, ◌≤◌, ◌==◌, nat_le, nat_lt, cond, Bool, true, false, List, [], ◌∷◌, ◌++◌, Some, None, if◌then◌else◌, inl, inr, refl, sym, subst, arith, length, map, take, get_or, ap, ◌∙◌}
use Rattle.std.specs.Option.{option_map, option_and_then, option_map_or}
use Rattle.std.specs.List.{slice_get, slice_index, position_or_len}
use Rattle.std.proofs.lemmas.Bool.{le-leb, lt-ltb, eqb-true, eq-eqb, ne_eqb}
use Rattle.std.proofs.lemmas.Option.{slice_get-map, slice_get-get_or, get_or_from_slice_get, slice_get_within}
use Rattle.std.proofs.lemmas.List.{length-map, length-append, map-append, length-take-le}
use Rattle.std.proofs.lemmas.List.Quantifiers.{position-Some}
use Rattle.std.proofs.lemmas.List.Sums.{position_or_len_is}
use Rattle.dy_term.specs.Terms as terms
use Rattle.dy_term.specs.Terms.{Term, size}
use Rattle.dy_term.specs.declared.limits.TheConstants.{MAX_NODES}
use Rattle.dy_entry.specs.Attacker.{Derives}
use Rattle.dy_entry.specs.Entries.{Entry}
use Rattle.dy_entry.proofs.Traces.{slice_get_split}
use Rattle.dy_recipe.specs.declared.moves.Move as code
use Rattle.dy_recipe.specs.Meaning.{move_of}
use Rattle.dy_recipe.specs.Moves.{Move}
use Rattle.dy_recipe.specs.Values.{value_at, made_by, if_small, move_value}
use Rattle.dy_traces.specs.Given.{given_by}
use Rattle.dy_chains.specs.declared.rules.Rule.{Rule}
use Rattle.dy_chains.specs.declared.rules.Premises.{Premises}
use Rattle.dy_chains.specs.declared.rules.Premises.TheVariants as premises
use Rattle.dy_chains.specs.declared.logs.Step.{Step}
use Rattle.dy_chains.specs.Rules.{premises_of}
use Rattle.dy_chains.specs.Logs.{facts_of, place_of, IsAt, IsLoggedBefore, IsLog}
use Rattle.dy_derive.specs.declared.nodes.Node.{Node}
use Rattle.dy_derive.specs.declared.reasons.Reason.{Reason}
use Rattle.dy_derive.specs.Facts.{Fact, Derived, Corrupted}
use Rattle.dy_derive.specs.Nodes.{term_in, term_at, fact_of, IsTable}
use Rattle.dy_derive.specs.Rules.{IsSoundRule, HasInferences}
use Rattle.dy_derive.specs.Saturation.{IsHad}
use Rattle.dy_derive.specs.MirrorRecipes.{number_in, premise_number, step_move, IsStepMove, AreLogMoves, HaveValues, log_values}
use Rattle.dy_derive.proofs.InferredValues.{NamesValues, IsSo, AreSo, inference_fine, value_after}
use Rattle.dy_derive.proofs.FactsSaturated.{also_there}

inside : {A : Type 0} (a b : A) → Some a ≡ Some b → a ≡ b
inside a b same = cc

-- ---- places

pub slice_get_take : {A : Type 0} (xs : List A) (n k : ℕ) → k < n → slice_get (take n xs) k ≡ slice_get xs k
slice_get_take xs zero k below = absurd (omega arith)
slice_get_take [] (suc n) k below = refl
slice_get_take (x ∷ xs) (suc n) zero below = refl
slice_get_take (x ∷ xs) (suc n) (suc k) below = slice_get_take xs n k (omega arith)

pub take_take : {A : Type 0} (xs : List A) (n k : ℕ) → k ≤ n → take k (take n xs) ≡ take k xs
take_take xs n zero below = refl
take_take xs zero (suc k) below = absurd (omega arith)
take_take [] (suc n) (suc k) below = refl
take_take (x ∷ xs) (suc n) (suc k) below = ap (λ ys. x ∷ ys) (take_take xs n k (omega arith))

pub small_stays : (term : Term) → size term ≤ MAX_NODES → if_small term ≡ Some term
small_stays term small = by (nat_le (size term) MAX_NODES) (le-leb (size term) MAX_NODES small) where
  by : (b : Bool) → b ≡ true → (if b then Some term else None) ≡ Some term
  by true is = refl
  by false is = absurd cc

-- the step of a fact of the log
pub step_at : (fact : ℕ) (steps : List Step) (place : ℕ) → IsAt steps place fact → (step : Step) × (slice_get steps place ≡ Some step) × (step.fact ≡ fact)
step_at fact [] place at = absurd cc
step_at fact (s ∷ steps) zero at = (s, refl, inside s.fact fact at)
step_at fact (s ∷ steps) (suc place) at = step_at fact steps place at

module _ (rules : List Rule) (log : List Step) (logged : IsLog rules log) where
  -- what stands in the log has that place
  pub place_is : (place fact : ℕ) → IsAt log place fact → place_of log fact ≡ Some place
  place_is place fact at =
      let within : place < length (facts_of log) = slice_get_within (facts_of log) place fact at in
      let first : position_or_len (λ other. other == fact) (facts_of log) ≡ place =
      position_or_len_is (λ other. other == fact) (facts_of log) place 0 (omega arith)
      (λ k lower. ne_eqb (get_or (facts_of log) k 0) fact (λ same.
      let again : k ≡ place = logged.once k place fact (slice_get-get_or (facts_of log) k 0 (omega arith) ∙ ap Some same) at in omega arith))
      (λ inside. eq-eqb (get_or (facts_of log) place 0) fact (get_or_from_slice_get (facts_of log) place fact 0 at)) in
      ap (λ p. cond (nat_lt p (length (facts_of log))) (Some p) None) first ∙ found place (nat_lt place (length (facts_of log))) (lt-ltb place (length (facts_of log)) within) where
        found : (p : ℕ) (b : Bool) → b ≡ true → cond b (Some p) None ≡ Some p
        found p true is = refl
        found p false is = absurd cc

  -- what has a place stands there
  pub stands_at : (place fact : ℕ) → place_of log fact ≡ Some place → IsAt log place fact
  stands_at place fact found =
      let is = position-Some (λ other. other == fact) (facts_of log) place 0 found in
      slice_get-get_or (facts_of log) place 0 is.0 ∙ ap Some (eqb-true (get_or (facts_of log) place 0) fact is.1)

module _ (T : List Entry) (nodes : List Node) (facts : List Fact) (rules : List Rule) (whys : List Reason) (log : List Step)
    (table : IsTable nodes facts) (inferred : HasInferences facts T rules whys) (logged : IsLog rules log) where
  -- the number of the move of a fact names its term
  number_names : (place fact : ℕ) (said : Fact) → IsLoggedBefore log place fact → slice_get facts fact ≡ Some said
      → value_at (take place (log_values facts log)) (number_in log fact) ≡ Some (term_in said)
  number_names place fact said before stands =
      let step = step_at fact log before.0 before.2 in
      let value : slice_get (take place (log_values facts log)) before.0 ≡ Some (term_in said) =
      slice_get_take (log_values facts log) place before.0 before.1 ∙ slice_get-map (λ s. term_at facts s.fact) log before.0
      ∙ ap (option_map (λ s. term_at facts s.fact)) step.1
      ∙ ap (λ n. Some (term_at facts n)) step.2 ∙ ap (λ f. Some (term_in f)) (get_or_from_slice_get facts fact said (Derived (terms.Lit [])) stands) in
      ap (λ o. value_at (take place (log_values facts log)) (option_map_or (λ p. p + 1) o 0)) (place_is rules log logged before.0 fact before.2) ∙ value_after (take place (log_values facts log)) before.0 (term_in said) value

  names_all : (place : ℕ) (numbers : List ℕ) (said : List Fact) (extra : List ℕ) → map (slice_get facts) numbers ≡ map Some said
      → ((k premise : ℕ) → slice_get numbers k ≡ Some premise → IsLoggedBefore log place premise)
      → NamesValues (take place (log_values facts log)) (map (number_in log) numbers ++ extra) said
  names_all place [] [] extra same before = tt
  names_all place [] (fact ∷ said) extra same before = absurd cc
  names_all place (n ∷ numbers) [] extra same before = absurd cc
  names_all place (n ∷ numbers) (fact ∷ said) extra same before =
      (number_names place n fact (before 0 n refl) (cc), names_all place numbers said extra (cc) (λ k premise at. before (suc k) premise at))

  names_three : (place : ℕ) (rule : Rule) (said : List Fact) → map (slice_get facts) (premises_of rule.premises) ≡ map Some said
      → ((k premise : ℕ) → slice_get (premises_of rule.premises) k ≡ Some premise → IsLoggedBefore log place premise)
      → NamesValues (take place (log_values facts log)) (premise_number log rule 0 ∷ premise_number log rule 1 ∷ premise_number log rule 2 ∷ []) said
  names_three place rule said same before = by rule.premises same before where
    by : (p : Premises) → map (slice_get facts) (premises_of p) ≡ map Some said → ((k premise : ℕ) → slice_get (premises_of p) k ≡ Some premise → IsLoggedBefore log place premise)
        → NamesValues (take place (log_values facts log)) (slice_index (map (number_in log) (premises_of p)) 0 ∷ slice_index (map (number_in log) (premises_of p)) 1 ∷ slice_index (map (number_in log) (premises_of p)) 2 ∷ []) said
    by premises.None e b = names_all place [] said (0 ∷ 0 ∷ 0 ∷ []) e b
    by (premises.One x) e b = names_all place (x ∷ []) said (0 ∷ 0 ∷ []) e b
    by (premises.Two x y) e b = names_all place (x ∷ y ∷ []) said (0 ∷ []) e b
    by (premises.Three x y z) e b = names_all place (x ∷ y ∷ z ∷ []) said [] e b

  -- what is known of a step
  record Known (place : ℕ) (step : Step) : Type 0 where
    rule : Rule
    why : Reason
    node : Node
    rule_stands : slice_get rules step.rule ≡ Some rule
    why_stands : slice_get whys step.rule ≡ Some why
    node_stands : slice_get nodes step.fact ≡ Some node
    before : (k premise : ℕ) → slice_get (premises_of rule.premises) k ≡ Some premise → IsLoggedBefore log place premise
    sound : IsSoundRule facts T rule why
    concludes : sound.inference.conclusion ≡ fact_of facts node

  known : (place : ℕ) (step : Step) → slice_get log place ≡ Some step → Known place step
  known place step at =
      let by = logged.by_rules place step at in
      let why = also_there rules whys step.rule by.rule inferred.each by.stands in
      let sound = inferred.sound step.rule by.rule why.0 by.stands why.1 in
      let concluded : slice_get facts step.fact ≡ Some sound.inference.conclusion = ap (slice_get facts) (sym by.concludes) ∙ sound.means.conclusion in
      let node = also_there facts nodes step.fact sound.inference.conclusion (sym table.each) concluded in
      record {
        rule = by.rule;
        why = why.0;
        node = node.0;
        rule_stands = by.stands;
        why_stands = why.1;
        node_stands = node.1;
        before = by.premises;
        sound = sound;
        concludes = inside sound.inference.conclusion (fact_of facts node.0) (sym concluded ∙ table.says step.fact node.0 node.1);
      }

  -- the fact of a step
  said_at : (place : ℕ) (step : Step) (k : Known place step) → slice_get facts step.fact ≡ Some k.sound.inference.conclusion
  said_at place step k = table.says step.fact k.node k.node_stands ∙ ap Some (sym k.concludes)

  all_so : (place bound : ℕ) (numbers : List ℕ) (said : List Fact) → place ≤ bound → map (slice_get facts) numbers ≡ map Some said
      → ((k premise : ℕ) → slice_get numbers k ≡ Some premise → IsLoggedBefore log place premise)
      → ((earlier fact : ℕ) (f : Fact) → earlier < bound → IsAt log earlier fact → slice_get facts fact ≡ Some f → IsSo T f)
      → AreSo T said
  all_so place bound [] [] within same before so = tt
  all_so place bound [] (fact ∷ said) within same before so = absurd cc
  all_so place bound (n ∷ numbers) [] within same before so = absurd cc
  all_so place bound (n ∷ numbers) (fact ∷ said) within same before so =
      let one = before 0 n refl in
      (so one.0 n fact (omega (arith, one.1)) one.2 (cc), all_so place bound numbers said within (cc) (λ k premise at. before (suc k) premise at) so)

  -- the value of the move of a step, and that its fact is so, where those before it are
  step_fine : (place bound : ℕ) (step : Step) → place ≤ bound → (k : Known place step)
      → ((earlier fact : ℕ) (f : Fact) → earlier < bound → IsAt log earlier fact → slice_get facts fact ≡ Some f → IsSo T f)
      → (made_by (given_by T) (take place (log_values facts log)) (step_move log k.rule k.why (fact_of facts k.node)) ≡ Some (term_in (fact_of facts k.node))) × IsSo T (fact_of facts k.node)
  step_fine place bound step within k so =
      let inference = k.sound.inference in
      let fine = inference_fine T facts inference k.sound.true (take place (log_values facts log)) (premise_number log k.rule 0) (premise_number log k.rule 1) (premise_number log k.rule 2)
      (names_three place k.rule inference.premises k.sound.means.premises k.before)
      (all_so place bound (premises_of k.rule.premises) inference.premises within k.sound.means.premises k.before so) in
      let why : inference.reason ≡ k.why = sym k.sound.means.why in (
        subst (λ (r : Reason). made_by (given_by T) (take place (log_values facts log)) (step_move log k.rule r (fact_of facts k.node)) ≡ Some (term_in (fact_of facts k.node))) why
            (subst (λ (f : Fact). made_by (given_by T) (take place (log_values facts log)) (step_move log k.rule inference.reason f) ≡ Some (term_in f)) k.concludes fine.0),
        subst (λ (f : Fact). IsSo T f) k.concludes fine.1,
      )

  so_below : (bound earlier fact : ℕ) (f : Fact) → earlier < bound → IsAt log earlier fact → slice_get facts fact ≡ Some f → IsSo T f
  so_below zero earlier fact f below at stands = absurd (omega arith)
  so_below (suc bound) earlier fact f below at stands =
      let step = step_at fact log earlier at in
      let k = known earlier step.0 step.1 in
      let fine = step_fine earlier bound step.0 (omega arith) k (so_below bound) in
      let same : fact_of facts k.node ≡ f = inside (fact_of facts k.node) f (sym (table.says step.0.fact k.node k.node_stands) ∙ ap (slice_get facts) step.2 ∙ stands) in
      subst (λ (g : Fact). IsSo T g) same fine.1

  -- What is had is derived.
  pub had_is_derived : (term : Term) → IsHad facts log term → Derives T term
  had_is_derived term had = so_below (suc had.2.0) had.2.0 had.0 (Derived term) (omega arith) had.2.1 had.1

  small_fact : (number : ℕ) (fact : Fact) → slice_get facts number ≡ Some fact → size (term_in fact) ≤ MAX_NODES
  small_fact number (Derived term) at = table.small number (Derived term) at
  small_fact number (Corrupted place) at = omega arith

  -- The moves of the first steps of the log have the terms of their facts as values.
  pub log_moves_have_values : (count : ℕ) (moves : List Move) → count ≤ length log → AreLogMoves nodes rules whys log count moves → HaveValues (given_by T) moves (take count (log_values facts log))
  log_moves_have_values count moves within are = record {
    each = length-take-le count (log_values facts log) (omega (arith, length-map log (λ step. term_at facts step.fact))) ∙ sym are.each;
    over = over;
  } where
    over : (i : ℕ) (move : Move) → slice_get moves i ≡ Some move → slice_get (take count (log_values facts log)) i ≡ move_value (given_by T) (take i (take count (log_values facts log))) move
    over i move at =
        let below : i < count = omega (arith, slice_get_within moves i move at, are.each) in
        let step = also_there moves (take count log) i move (length-take-le count log within ∙ sym are.each) at in
        let stands : slice_get log i ≡ Some step.0 = sym (slice_get_take log count i below) ∙ step.1 in
        let k = known i step.0 stands in
        let fine = step_fine i i step.0 (omega arith) k (so_below i) in
        let is : move ≡ step_move log k.rule k.why (fact_of facts k.node) = are.at i step.0 move stands at k.rule k.why k.node facts k.rule_stands k.why_stands k.node_stands in
        let said : slice_get facts step.0.fact ≡ Some (fact_of facts k.node) = table.says step.0.fact k.node k.node_stands in
        let value : slice_get (take count (log_values facts log)) i ≡ Some (term_in (fact_of facts k.node)) =
        slice_get_take (log_values facts log) count i below ∙ slice_get-map (λ s. term_at facts s.fact) log i ∙ ap (option_map (λ s. term_at facts s.fact)) stands
        ∙ ap (λ f. Some (term_in f)) (get_or_from_slice_get facts step.0.fact (fact_of facts k.node) (Derived (terms.Lit [])) said) in
        value ∙ sym (small_stays (term_in (fact_of facts k.node)) (small_fact step.0.fact (fact_of facts k.node) said))
        ∙ sym (ap (option_and_then if_small) fine.0)
        ∙ ap (λ vs. move_value (given_by T) vs (step_move log k.rule k.why (fact_of facts k.node))) (sym (take_take (log_values facts log) count i (omega arith)))
        ∙ ap (move_value (given_by T) (take i (take count (log_values facts log)))) (sym is)

-- The moves of one step more.
pub log_moves_push : (nodes : List Node) (rules : List Rule) (whys : List Reason) (log : List Step) (count : ℕ) (moves : List Move) (step : Step) (move : Move)
    → AreLogMoves nodes rules whys log count moves → slice_get log count ≡ Some step → IsStepMove nodes rules whys log step move
    → AreLogMoves nodes rules whys log (count + 1) (moves ++ move ∷ [])
log_moves_push nodes rules whys log count moves step move are stands is = record {
  each = length-append moves (move ∷ []) ∙ ap (λ n. n + 1) are.each;
  at = at;
} where
  at : (place : ℕ) (s : Step) (m : Move) → slice_get log place ≡ Some s → slice_get (moves ++ move ∷ []) place ≡ Some m → IsStepMove nodes rules whys log s m
  at place s m there here = elim (slice_get_split moves move m place here) [
    | inl before ↦ are.at place s m there before
    | inr last ↦
        let same : step ≡ s = inside step s (sym stands ∙ ap (slice_get log) (sym (last.0 ∙ are.each)) ∙ there) in
        subst (λ (t : Step). IsStepMove nodes rules whys log t m) same (subst (λ (n : Move). IsStepMove nodes rules whys log step n) last.1 is)
  ]

pub no_log_moves : (nodes : List Node) (rules : List Rule) (whys : List Reason) (log : List Step) → AreLogMoves nodes rules whys log 0 []
no_log_moves nodes rules whys log = record { each = refl; at = λ place s m there here. absurd cc }

-- The same in code, where the steps are the first of the log.
pub log_moves_more : (nodes : List Node) (rules : List Rule) (whys : List Reason) (log steps : List Step) (count : ℕ) (moves after : List code.Move) (none : Step) (move : code.Move)
    → take (length steps) log ≡ steps → count < length steps → after ≡ moves ++ move ∷ []
    → IsStepMove nodes rules whys log (get_or steps count none) (move_of move) → AreLogMoves nodes rules whys log count (map move_of moves)
    → AreLogMoves nodes rules whys log (count + 1) (map move_of after)
log_moves_more nodes rules whys log steps count moves after none move first within longer is are =
    let step : Step = get_or steps count none in
    let stands : slice_get log count ≡ Some step =
    sym (slice_get_take log (length steps) count within) ∙ ap (λ xs. slice_get xs count) first ∙ slice_get-get_or steps count none within in
    subst (λ (ms : List Move). AreLogMoves nodes rules whys log (count + 1) ms) (sym (ap (map move_of) longer ∙ map-append move_of moves (move ∷ [])))
    (log_moves_push nodes rules whys log count (map move_of moves) step (move_of move) are stands is)
