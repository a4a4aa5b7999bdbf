-- A chain that gains facts and rules.
use Rattle.std.proofs.Common.{◌≡◌, ℕ, ◌+◌, ◌<◌, ◌≤◌, ◌^◌, List, ◌++◌, length, get_or, inl, inr, refl, sym, subst, arith}
use Rattle.std.specs.List.{All}
use Rattle.std.proofs.lemmas.Bool.{cases_lt}
use Rattle.std.proofs.lemmas.Option.{slice_get_within}
use Rattle.std.proofs.lemmas.List.Elements.{All-append}
use Rattle.dy_chains.specs.declared.rules.Rule.{Rule}
use Rattle.dy_chains.specs.declared.logs.Step.{Step}
use Rattle.dy_chains.specs.Rules.{IsBelow}
use Rattle.dy_chains.specs.Logs.{IsLog, IsComplete}
use Rattle.dy_chains.specs.Chains.{IsChain, Grows}
use Rattle.dy_chains.specs.Lists.{Extends}
use Rattle.dy_chains.specs.MirrorWatchers.{Watcher, AreWatchedFrom}
use Rattle.dy_chains.specs.MirrorChains.{chain_of, HoldsChain}
use Rattle.dy_chains.specs.MirrorLogs.{Log, Gains, IsTried, IsClosed}
use Rattle.dy_chains.specs.MirrorFiring.{AreTried}
use Rattle.dy_chains.proofs.Lists.{in_longer, in_shorter}
use Rattle.dy_chains.proofs.Watching.{watched_later, watched_more}
use Rattle.dy_chains.proofs.LoggedFacts.{gains_none, gains_then, gains_length, tried_later, tried_of_fewer}

below_later : (facts more : ℕ) (rule : Rule) → IsBelow facts rule → IsBelow (facts + more) rule
below_later facts more rule below = record {
  conclusion = let conclusion = below.conclusion in omega (arith, conclusion);
  premises = λ k premise has. let premise_below = below.premises k premise has in omega (arith, premise_below);
}

pub below_more : (facts more : ℕ) (rules added : List Rule) → All (IsBelow facts) rules → All (IsBelow (facts + more)) added
    → All (IsBelow (facts + more)) (rules ++ added)
below_more facts more rules added below new =
    All-append (IsBelow (facts + more)) rules added (λ k d within. below_later facts more (get_or rules k d) (below k d within)) new

-- A log is one by more rules too.
pub log_by_more : (rules more : List Rule) (log : List Step) → IsLog rules log → IsLog (rules ++ more) log
log_by_more rules more log is = record {
  by_rules = λ place step at.
      let by = is.by_rules place step at in
      record { rule = by.rule; stands = in_longer rules more step.rule by.rule by.stands; concludes = by.concludes; premises = by.premises };
  once = is.once;
}

-- The rules conclude nothing that is not logged, while there are more after them.
pub tried_again : (rules more : List Rule) (log : List Step) → IsComplete rules log → (number : ℕ) → number < length rules
    → IsTried (rules ++ more) log (length log) number
tried_again rules more log complete number below rule stands premises =
    complete number rule (in_shorter rules more number rule below stands) (λ k premise has.
    let before = premises k premise has in (before.0, before.2))

-- What rules conclude from what was logged is logged: of some this held before, and the others were tried.
pub closed_again : (rules : List Rule) (old new : Log) (first : ℕ) → Gains rules old new
    → ((number : ℕ) → number < first → IsTried rules old.steps (length old.steps) number)
    → ((number : ℕ) → first ≤ number → IsTried rules new.steps (length old.steps) number)
    → IsClosed rules new.steps (length old.steps)
closed_again rules old new first gains before after number = elim (cases_lt number first) [
  | inr late ↦ after number late
  | inl early ↦ tried_later rules old new (length old.steps) number gains (omega arith) (before number early)
]

pub tried_none : (rules : List Rule) (log : Log) (first : ℕ) → AreTried rules log log first first
tried_none rules log first = record { gains = gains_none rules log; tried = λ number after before. absurd (omega (arith, after, before)) }

pub tried_more : (rules : List Rule) (old mid new : Log) (first end : ℕ) → first ≤ end → AreTried rules old mid first end → Gains rules mid new
    → IsTried rules new.steps (length mid.steps) end → AreTried rules old new first (end + 1)
tried_more rules old mid new first end begins before gains tried =
    let longer = gains_length rules old mid before.gains in
    record {
      gains = gains_then rules old mid new before.gains gains;
      tried = λ number after below. elim (cases_lt number end) [
        | inl earlier ↦ tried_later rules mid new (length old.steps) number gains longer (before.tried number after earlier)
        | inr last ↦
            let same : number ≡ end = omega (arith, below, last) in
            subst (IsTried rules new.steps (length old.steps)) (sym same) (tried_of_fewer rules new.steps (length mid.steps) (length old.steps) end longer tried)
      ];
    }

-- All numbers from the first on were tried, also those of no rule.
pub tried_all : (rules : List Rule) (old new : Log) (first end : ℕ) → length rules ≤ end → AreTried rules old new first end → (number : ℕ) → first ≤ number
    → IsTried rules new.steps (length old.steps) number
tried_all rules old new first end all tried number after = elim (cases_lt number end) [
  | inl below ↦ tried.tried number after below
  | inr past ↦ λ rule stands premises. let within = slice_get_within rules number rule stands in absurd (omega (arith, within, past, all))
]

-- A chain of which nothing that is seen has changed.
pub chain_still : (old new : Log) (rules same : List Rule) (a b : List Watcher) → new ≡ old → same ≡ rules → Extends a b → HoldsChain old rules a
    → HoldsChain new same b
chain_still old new rules same a b log_is rules_are extends holds =
    subst (λ (log : Log). HoldsChain log same b) (sym log_is) (subst (λ (all : List Rule). HoldsChain old all b) (sym rules_are)
    (record { chain = holds.chain; watched = watched_later a b rules extends holds.watched; few = holds.few }))

-- A chain with more facts and rules, whose log gained what follows.
module _ (more : ℕ) (rules added : List Rule) (old new : Log) (below : All (IsBelow (old.facts + more)) added) where
  -- the log with the new facts
  abbrev pub with_facts : Log
  with_facts = record { facts = old.facts + more; steps = old.steps }

  grown_is_chain : IsChain (chain_of old rules) → Gains (rules ++ added) with_facts new → IsComplete (rules ++ added) new.steps
      → IsChain (chain_of new (rules ++ added))
  grown_is_chain is gains complete = record {
    below = subst (λ (n : ℕ). All (IsBelow n) (rules ++ added)) (sym gains.facts) (below_more old.facts more rules added is.below below);
    log = gains.by_rules (log_by_more rules added old.steps is.log);
    complete = complete;
  }

  pub chain_grown : (a b : List Watcher) → HoldsChain old rules a → Extends a b → AreWatchedFrom (length rules) b added → length (rules ++ added) < 2 ^ 32
      → Gains (rules ++ added) with_facts new → IsComplete (rules ++ added) new.steps → HoldsChain new (rules ++ added) b
  chain_grown a b holds extends from few gains complete = record {
    chain = grown_is_chain holds.chain gains complete;
    watched = watched_more a b rules added extends holds.watched from;
    few = few;
  }

  pub grown_grows : Gains (rules ++ added) with_facts new → Grows (chain_of old rules) (chain_of new (rules ++ added)) more added
  grown_grows gains = record { facts = gains.facts; rules = refl; log = gains.steps }
