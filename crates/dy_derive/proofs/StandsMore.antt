-- A Knowledge that goes on with one more entry.
use Rattle.std.proofs.Common.{◌≡◌, ℕ, inl, inr, ◌+◌, ◌<◌, ◌≤◌, List, [], ◌∷◌, ◌++◌, length, take, drop, Some, refl, ap, sym, ◌∙◌, subst, arith, length-append, append_assoc}
use Rattle.std.specs.List.{slice_get, Contains}
use Rattle.std.specs.Option.{option_map}
use Rattle.std.proofs.lemmas.List.{take-append-le, take_all, take-append-drop}
use Rattle.std.proofs.lemmas.List.Elements.{filter_map-append}
use Rattle.std.proofs.lemmas.Option.{slice_get_cases, slice_get_within, slice_get-map, get_or_from_slice_get}
use Rattle.dy_term.specs.Terms as trees
use Rattle.dy_chains.specs.declared.rules.Rule.{Rule}
use Rattle.dy_chains.specs.declared.logs.Step.{Step}
use Rattle.dy_chains.specs.Logs.{facts_of}
use Rattle.dy_chains.specs.Chains.{IsChain}
use Rattle.dy_entry.proofs.Traces.{slice_get-prefix}
use Rattle.dy_traces.proofs.Prefixes.{in_prefix}
use Rattle.dy_entry.specs.Attacker.{Derives}
use Rattle.dy_entry.specs.Entries.{Entry}
use Rattle.dy_derive.specs.declared.deductions.Deductions.{Deductions}
use Rattle.dy_derive.specs.declared.given.Given.{Given}
use Rattle.dy_derive.specs.declared.knowledge.Knowledge.{Knowledge}
use Rattle.dy_derive.specs.declared.nodes.Node.{Node}
use Rattle.dy_derive.specs.Facts.{Fact, inferences_of_entry}
use Rattle.dy_derive.specs.Nodes.{IsTermAt}
use Rattle.dy_derive.specs.Saturation.{IsHad}
use Rattle.dy_derive.specs.MirrorRules.{StandForAll}
use Rattle.dy_derive.specs.MirrorGiven.{Gives}
use Rattle.dy_derive.specs.MirrorNonces.{nonces_in}
use Rattle.dy_derive.specs.MirrorKnowledge.{IsDeduced, AddsRules, Grows, AreAny, HasEachOnce, Stands}
use Rattle.dy_derive.proofs.AddedInferences.{entry_more}
use Rattle.dy_derive.proofs.GrownDeductions.{deduced_of}
use Rattle.dy_derive.proofs.NoncesNoted.{nonce_of_step, nonces_longer, noted, noted_at, nonces_once, step_says_nonce, nonce_said_by_step}
use Rattle.dy_derive.proofs.LogValues.{step_at}

-- The rules of an entry are added.
pub entry_deduced : (old new : Deductions) (made : Given) (index : ℕ) (entry : Entry) (facts : List Fact) (T : List Entry) → index ≡ length T
    → AddsRules old new made.rules.items made.reasons.items → IsDeduced old facts T → Gives made (inferences_of_entry index entry) facts
    → IsDeduced new facts (T ++ entry ∷ [])
entry_deduced old new made index entry facts T count adds deduced gives =
    let all = subst (λ (n : ℕ). StandForAll facts made.rules.items made.reasons.items (inferences_of_entry n entry)) count gives in
    deduced_of new facts (T ++ entry ∷ []) old.nodes.keys (old.chain.chain.rules ++ made.rules.items) (old.chain.reasons.items ++ made.reasons.items)
    adds.nodes adds.then_rules adds.then_reasons deduced.table
    (entry_more facts T entry old.chain.chain.rules made.rules.items old.chain.reasons.items made.reasons.items deduced.rules all)

-- the first steps stay where the log gains more
pub first_steps : (log more : List Step) (seen : ℕ) → seen ≤ length log → take seen (log ++ more) ≡ take seen log
first_steps log more seen within = take-append-le seen log more within

-- the facts of a log are facts of the chain
pub log_below : (d : Deductions) → IsChain d.chain.chain → (place : ℕ) (step : Step) → slice_get d.chain.chain.log place ≡ Some step
    → step.fact < length d.nodes.keys
log_below d chain place step at =
    let by = chain.log.by_rules place step at in
    let within = slice_get_within d.chain.chain.rules step.rule by.rule by.stands in
    let found = get_or_from_slice_get d.chain.chain.rules step.rule by.rule by.rule by.stands in
    let below = chain.below step.rule by.rule within in
    let mine = subst (λ (r : Rule). r.conclusion < d.chain.chain.facts) found below.conclusion in
    omega (arith, mine, by.concludes, d.facts)

-- the nonces of the steps that were seen stay
nonces_seen : (nodes more : List Node) (log later : List Step) (seen : ℕ) → seen ≤ length log
    → ((place : ℕ) (step : Step) → place < seen → slice_get log place ≡ Some step → step.fact < length nodes)
    → nonces_in (nodes ++ more) (take seen (log ++ later)) ≡ nonces_in nodes (take seen log)
nonces_seen nodes more log later seen within below =
    ap (nonces_in (nodes ++ more)) (first_steps log later seen within)
    ∙ nonces_longer nodes more (take seen log)
    (λ place step at. let inside = in_prefix log seen place step at in below place step inside.0 inside.1)

-- a step of a longer log that stands among the old ones
old_step : (log more : List Step) (place : ℕ) (step : Step) → place < length log → slice_get (log ++ more) place ≡ Some step
    → slice_get log place ≡ Some step
old_step log more place step within at = elim (slice_get_cases log place).1 [
  | inl found ↦
      let longer = slice_get-prefix log more place found.0 found.2 in
      let same : found.0 ≡ step = cc in found.2 ∙ ap Some same
  | inr past ↦ absurd (omega (arith, past.0, within))
]

-- What a Knowledge says of the nonces that it noted, where nothing is had that was not.
pub nonces_kept : (old new : Knowledge) (T : List Entry) → Stands old T → Grows old.deductions new.deductions AreAny
    → old.seen ≤ length old.deductions.chain.chain.log → new.seen ≡ old.seen → new.nonces.items ≡ old.nonces.items → new.entries ≡ old.entries
    → Stands new T
nonces_kept old new T stands grown within seen nonces entries =
    let one = grown.deduced stands.facts T stands.deduced in
    let longer_log = grown.log in
    let longer_nodes = grown.nodes in
    let at_old = λ (place : ℕ) (step : Step) (before : place < old.seen) (at : slice_get new.deductions.chain.chain.log place ≡ Some step).
    old_step old.deductions.chain.chain.log longer_log.0 place step (omega (arith, before, within))
    (ap (λ list. slice_get list place) (sym longer_log.1) ∙ at) in
    record {
      facts = stands.facts ++ one.0;
      deduced = one.1;
      count = entries ∙ stands.count;
      within = λ place step before at.
          let mine : place < old.seen = omega (arith, before, seen) in
          let below = stands.within place step mine (at_old place step mine at) in
          omega (arith, below, ap length longer_nodes.1, length-append old.deductions.nodes.keys longer_nodes.0);
      nonces =
          nonces ∙ stands.nonces
          ∙ sym (nonces_seen old.deductions.nodes.keys longer_nodes.0 old.deductions.chain.chain.log longer_log.0 old.seen within stands.within)
          ∙ ap (λ list. nonces_in list (take old.seen (old.deductions.chain.chain.log ++ longer_log.0))) (sym longer_nodes.1)
          ∙ ap (λ list. nonces_in new.deductions.nodes.keys (take old.seen list)) (sym longer_log.1)
          ∙ ap (λ n. nonces_in new.deductions.nodes.keys (take n new.deductions.chain.chain.log)) (sym seen);
      derived = λ index has. stands.derived index (subst (λ list. Contains list index) nonces has);
      all = λ index derives. subst (λ list. Contains list index) (sym nonces) (stands.all index derives);
      once = subst HasEachOnce (sym nonces) stands.once;
    }

-- the fact of a step stands in the log
fact_at : (log : List Step) (place : ℕ) (step : Step) → slice_get log place ≡ Some step → slice_get (facts_of log) place ≡ Some step.fact
fact_at log place step at = slice_get-map (λ (s : Step). s.fact) log place ∙ ap (option_map (λ (s : Step). s.fact)) at

-- With one more entry: its rules were added, and the nonces of all steps that were not seen.
pub stands_more : (old new : Knowledge) (mid : Deductions) (made : Given) (entry : Entry) (T : List Entry) → Stands old T
    → old.seen ≤ length old.deductions.chain.chain.log
    → Grows old.deductions mid (Gives made (inferences_of_entry old.entries entry))
    → AddsRules mid new.deductions made.rules.items made.reasons.items
    → IsChain new.deductions.chain.chain → new.entries ≡ old.entries + 1 → new.seen ≡ length new.deductions.chain.chain.log
    → new.nonces.items ≡ old.nonces.items ++ nonces_in new.deductions.nodes.keys (drop old.seen new.deductions.chain.chain.log)
    → ((facts : List Fact) → IsDeduced new.deductions facts (T ++ entry ∷ []) → (index : ℕ)
    → IsHad facts new.deductions.chain.chain.log (trees.Nonce index) → Derives (T ++ entry ∷ []) (trees.Nonce index))
    → ((facts : List Fact) → IsDeduced new.deductions facts (T ++ entry ∷ []) → (index : ℕ)
    → Derives (T ++ entry ∷ []) (trees.Nonce index) → IsHad facts new.deductions.chain.chain.log (trees.Nonce index))
    → Stands new (T ++ entry ∷ [])
stands_more old new mid made entry T stands within grown adds chain entries seen nonces sound complete =
    let one = grown.deduced stands.facts T stands.deduced in
    let facts = stands.facts ++ one.0 in
    let deduced = entry_deduced mid new.deductions made old.entries entry facts T stands.count adds one.1 one.2 in
    let nodes = new.deductions.nodes.keys in
    let log = new.deductions.chain.chain.log in
    let old_log = old.deductions.chain.chain.log in
    let log_is : log ≡ old_log ++ (grown.log.0 ++ adds.log.0) =
    adds.log.1 ∙ ap (λ list. list ++ adds.log.0) grown.log.1 ∙ append_assoc old_log grown.log.0 adds.log.0 in
    let nodes_is : nodes ≡ old.deductions.nodes.keys ++ grown.nodes.0 = adds.nodes ∙ grown.nodes.1 in
    let seen_then : nonces_in nodes (take old.seen log) ≡ old.nonces.items =
    ap (λ list. nonces_in nodes (take old.seen list)) log_is
    ∙ ap (λ list. nonces_in list (take old.seen (old_log ++ (grown.log.0 ++ adds.log.0)))) nodes_is
    ∙ nonces_seen old.deductions.nodes.keys grown.nodes.0 old_log (grown.log.0 ++ adds.log.0) old.seen within stands.within
    ∙ sym stands.nonces in
    let all_nonces : new.nonces.items ≡ nonces_in nodes log =
    nonces ∙ ap (λ list. list ++ nonces_in nodes (drop old.seen log)) (sym seen_then)
    ∙ sym (filter_map-append (nonce_of_step nodes) (take old.seen log) (drop old.seen log))
    ∙ ap (nonces_in nodes) (take-append-drop old.seen log) in
    record {
      facts = facts;
      deduced = deduced;
      count = entries ∙ ap (λ n. n + 1) stands.count ∙ sym (simp length-append refl);
      within = λ place step before at. log_below new.deductions chain place step at;
      nonces = all_nonces ∙ ap (nonces_in nodes) (sym (take_all new.seen log (omega (arith, seen))));
      derived = λ index has.
          let at = noted_at nodes log index (subst (λ list. Contains list index) all_nonces has) in
          sound facts deduced index
          (at.1.fact, step_says_nonce nodes facts at.1 index deduced.table at.3, (at.0, fact_at log at.0 at.1 at.2));
      all = λ index derives.
          let had = complete facts deduced index derives in
          let at = step_at had.0 log had.2.0 had.2.1 in
          let is : nonce_of_step nodes at.0 ≡ Some index =
          nonce_said_by_step nodes facts at.0 index deduced.table (subst (λ n. IsTermAt facts n (trees.Nonce index)) (sym at.2) had.1) in
          subst (λ list. Contains list index) (sym all_nonces) (noted nodes log had.2.0 at.0 index at.1 is);
      once = subst HasEachOnce (sym all_nonces) (nonces_once nodes facts log deduced.table (λ place other step second at at_other same.
          chain.log.once place other step.fact (fact_at log place step at)
          (subst (λ n. slice_get (facts_of log) other ≡ Some n) (sym same) (fact_at log other second at_other))));
    }
