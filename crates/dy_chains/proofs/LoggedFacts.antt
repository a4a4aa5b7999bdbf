-- What is logged is what follows, and logs that gain steps.
use Rattle.std.proofs.Common.{◌≡◌, ℕ, zero, suc, ◌+◌, ◌<◌, ◌≤◌, List, [], ◌∷◌, ◌++◌, length, Option, Some, None, is_some, ◌↔◌, ◌⊎◌, inl, inr, refl, ap, sym, subst, ◌∙◌, get_or, arith, append_assoc, length-append}
use Rattle.std.proofs.lemmas.List.{append-nil}
use Rattle.std.proofs.lemmas.Option.{slice_get-map, slice_get_within, slice_get-get_or, same_Some}
use Rattle.std.proofs.lemmas.Bool.{cases_lt}
use Rattle.std.specs.List.{slice_get}
use Rattle.std.specs.Option.{option_map, IsSome}
use Rattle.dy_chains.specs.declared.rules.Rule.{Rule}
use Rattle.dy_chains.specs.declared.logs.Step.{Step}
use Rattle.dy_chains.specs.Rules.{EachPremise, Follows, by_rule, premises_of}
use Rattle.dy_chains.specs.Logs.{facts_of, place_of, IsAt, IsLogged, IsLoggedBefore, IsByRule, IsLog, IsComplete}
use Rattle.dy_chains.specs.Chains.{Chain, IsChain}
use Rattle.dy_chains.specs.MirrorLogs.{Log, Gains, IsTried, IsClosed}
use Rattle.dy_chains.proofs.Lists.{in_longer, in_more}
use Rattle.dy_chains.proofs.Places.{no_place, place_stands, has_place, length-facts, at_in_longer, at_in_shorter, at_in_more}

mapped_from : (o : Option Step) (fact : ℕ) → option_map (λ (step : Step). step.fact) o ≡ Some fact → (step : Step) × (o ≡ Some step) × (step.fact ≡ fact)
mapped_from None fact same = absurd cc
mapped_from (Some step) fact same = (step, refl, cc)

pub step_at : (log : List Step) (place fact : ℕ) → IsAt log place fact → (step : Step) × (slice_get log place ≡ Some step) × (step.fact ≡ fact)
step_at log place fact at = mapped_from (slice_get log place) fact (sym (slice_get-map (λ (step : Step). step.fact) log place) ∙ at)

pub at_of_step : (log : List Step) (place : ℕ) (step : Step) → slice_get log place ≡ Some step → IsAt log place step.fact
at_of_step log place step at = slice_get-map (λ (step : Step). step.fact) log place ∙ ap (option_map (λ (step : Step). step.fact)) at

pub at_within : (log : List Step) (place fact : ℕ) → IsAt log place fact → place < length log
at_within log place fact at =
    let within = slice_get_within (facts_of log) place fact at in
    let long = length-facts log in
    omega (arith, within, long)

logged_follow_below : (rules : List Rule) (log : List Step) → IsLog rules log → (n place fact : ℕ) → place < n → IsAt log place fact → Follows rules fact
logged_follow_below rules log is zero place fact within at = absurd (omega arith)
logged_follow_below rules log is (suc n) place fact within at =
    let step = step_at log place fact at in
    let by = is.by_rules place step.0 step.1 in
    by_rule fact step.0.rule by.rule by.stands (by.concludes ∙ step.2) (λ k premise has.
    let before = by.premises k premise has in
    let below = before.1 in
    logged_follow_below rules log is n before.0 premise (omega (arith, below, within)) before.2)

-- Each logged fact follows.
pub logged_follow : (rules : List Rule) (log : List Step) (place fact : ℕ) → IsLog rules log → IsAt log place fact → Follows rules fact
logged_follow rules log place fact is at = logged_follow_below rules log is (suc place) place fact (omega arith) at

-- Each fact that follows is logged.
pub follow_logged : (rules : List Rule) (log : List Step) (fact : ℕ) → IsComplete rules log → Follows rules fact → IsLogged log fact
follow_logged rules log _ complete (by_rule fact number rule stands concludes premises) =
    let logged = complete number rule stands (λ k premise has. follow_logged rules log premise complete (premises k premise has)) in
    (logged.0, logged.1 ∙ ap Some concludes)

-- More rules conclude no less.
pub follow_by_more : (rules more : List Rule) (fact : ℕ) → Follows rules fact → Follows (rules ++ more) fact
follow_by_more rules more _ (by_rule fact number rule stands concludes premises) =
    by_rule fact number rule (in_longer rules more number rule stands) concludes (λ k premise has. follow_by_more rules more premise (premises k premise has))

pub gains_none : (rules : List Rule) (log : Log) → Gains rules log log
gains_none rules log = record { facts = refl; steps = ([], sym (append-nil log.steps)); by_rules = λ is. is }

pub gains_then : (rules : List Rule) (a b c : Log) → Gains rules a b → Gains rules b c → Gains rules a c
gains_then rules a b c first second = record {
  facts = second.facts ∙ first.facts;
  steps = (
    first.steps.0 ++ second.steps.0,
    second.steps.1 ∙ ap (λ (steps : List Step). steps ++ second.steps.0) first.steps.1 ∙ append_assoc a.steps first.steps.0 second.steps.0,
  );
  by_rules = λ is. second.by_rules (first.by_rules is);
}

pub gains_length : (rules : List Rule) (a b : Log) → Gains rules a b → length a.steps ≤ length b.steps
gains_length rules a b gains =
    let long : length b.steps ≡ length a.steps + length gains.steps.0 = ap length gains.steps.1 ∙ length-append a.steps gains.steps.0 in
    omega (arith, long)

by_rule_later : (rules : List Rule) (log more : List Step) (place : ℕ) (step : Step) → IsByRule rules log place step → IsByRule rules (log ++ more) place step
by_rule_later rules log more place step by = record {
  rule = by.rule;
  stands = by.stands;
  concludes = by.concludes;
  premises = λ k premise has.
      let before = by.premises k premise has in
      (before.0, before.1, at_in_longer log more before.0 premise before.2);
}

-- A step by a rule that has its premises, to a fact that is not logged yet.
pub gains_step : (rules : List Rule) (facts : ℕ) (log : List Step) (number : ℕ) (rule : Rule) → slice_get rules number ≡ Some rule
    → EachPremise (IsLogged log) rule → place_of log rule.conclusion ≡ None
    → Gains rules (record { facts = facts; steps = log }) (record { facts = facts; steps = log ++ record { fact = rule.conclusion; rule = number } ∷ [] })
gains_step rules facts log number rule stands premises none =
    let step : Step = record { fact = rule.conclusion; rule = number } in
    record {
      facts = refl;
      steps = (step ∷ [], refl);
      by_rules = λ is. record {
        by_rules = λ place other at. elim (in_more log step place other at) [
          | inl before ↦ by_rule_later rules log (step ∷ []) place other (is.by_rules place other before)
          | inr last ↦ record {
            rule = rule;
            stands = ap (λ (s : Step). slice_get rules s.rule) (sym last.1) ∙ stands;
            concludes = ap (λ (s : Step). s.fact) last.1;
            premises = λ k premise has.
                let logged = premises k premise has in
                let within = at_within log logged.0 premise logged.1 in
                let here = last.0 in
                (logged.0, omega (arith, within, here), at_in_longer log (step ∷ []) logged.0 premise logged.1);
          }
        ];
        once = λ place other fact first second. elim (at_in_more log step place fact first) [
          | inl before ↦ elim (at_in_more log step other fact second) [
            | inl again ↦ is.once place other fact before again
            | inr last ↦ absurd (no_place log rule.conclusion place none (before ∙ ap Some (sym last.1)))
          ]
          | inr last ↦ elim (at_in_more log step other fact second) [
            | inl again ↦ absurd (no_place log rule.conclusion other none (again ∙ ap Some (sym last.1)))
            | inr too ↦ last.0 ∙ sym too.0
          ]
        ];
      };
    }

-- A rule that was tried needs no more, while the log gains steps at its end.
pub tried_still : (rules : List Rule) (log more : List Step) (bound number : ℕ) → bound ≤ length log → IsTried rules log bound number
    → IsTried rules (log ++ more) bound number
tried_still rules log more bound number within tried rule stands premises =
    let logged = tried rule stands (λ k premise has.
    let before = premises k premise has in
    let below = before.1 in
    (before.0, before.1, at_in_shorter log more before.0 premise (omega (arith, below, within)) before.2)) in
    (logged.0, at_in_longer log more logged.0 rule.conclusion logged.1)

pub tried_later : (rules : List Rule) (a b : Log) (bound number : ℕ) → Gains rules a b → bound ≤ length a.steps → IsTried rules a.steps bound number
    → IsTried rules b.steps bound number
tried_later rules a b bound number gains within tried =
    subst (λ (steps : List Step). IsTried rules steps bound number) (sym gains.steps.1) (tried_still rules a.steps gains.steps.0 bound number within tried)

pub tried_of_fewer : (rules : List Rule) (log : List Step) (bound fewer number : ℕ) → fewer ≤ bound → IsTried rules log bound number
    → IsTried rules log fewer number
tried_of_fewer rules log bound fewer number within tried rule stands premises =
    tried rule stands (λ k premise has.
    let before = premises k premise has in
    let below = before.1 in
    (before.0, omega (arith, below, within), before.2))

each_of : (P : ℕ → Type 0) (x : ℕ) (facts : List ℕ) → P x → ((k fact : ℕ) → slice_get facts k ≡ Some fact → P fact)
    → (k fact : ℕ) → slice_get (x ∷ facts) k ≡ Some fact → P fact
each_of P x facts first rest zero fact at = subst P (same_Some x fact at) first
each_of P x facts first rest (suc k) fact at = rest k fact at

-- each premise has the one property, or some premise has the other
one_or_each : (P Q : ℕ → Type 0) (facts : List ℕ) → ((k fact : ℕ) → slice_get facts k ≡ Some fact → P fact ⊎ Q fact)
    → ((k fact : ℕ) → slice_get facts k ≡ Some fact → P fact) ⊎ ((k : ℕ) × (fact : ℕ) × (slice_get facts k ≡ Some fact) × Q fact)
one_or_each P Q [] either = inl (λ k fact at. absurd cc)
one_or_each P Q (x ∷ facts) either = elim (either 0 x refl) [
  | inr one ↦ inr (0, x, refl, one)
  | inl first ↦ elim (one_or_each P Q facts (λ k fact at. either (suc k) fact at)) [
    | inr one ↦ inr (suc one.0, one.1, one.2, one.3)
    | inl rest ↦ inl (each_of P x facts first rest)
  ]
]

earlier_or_last : (log : List Step) (done fact premise : ℕ) → IsAt log done fact → IsLoggedBefore log (done + 1) premise
    → IsLoggedBefore log done premise ⊎ (premise ≡ fact)
earlier_or_last log done fact premise at before = elim (cases_lt before.0 done) [
  | inl earlier ↦ inl (before.0, earlier, before.2)
  | inr last ↦
      let below = before.1 in
      let same : before.0 ≡ done = omega (arith, below, last) in
      inr (same_Some premise fact (sym before.2 ∙ ap (slice_get (facts_of log)) same ∙ at))
]

-- Where the rules that have a fact as a premise were tried too, what rules conclude from it is logged.
pub closed_more : (rules : List Rule) (log : List Step) (done fact : ℕ) → IsAt log done fact → IsClosed rules log done
    → ((number : ℕ) (rule : Rule) (k : ℕ) → slice_get rules number ≡ Some rule → slice_get (premises_of rule.premises) k ≡ Some fact
    → IsTried rules log (done + 1) number)
    → IsClosed rules log (done + 1)
closed_more rules log done fact at closed tried number rule stands premises =
    elim (one_or_each (IsLoggedBefore log done) (λ premise. premise ≡ fact) (premises_of rule.premises) (λ k premise has.
    let before = premises k premise has in
    earlier_or_last log done fact premise at before)) [
      | inl each ↦ closed number rule stands each
      | inr one ↦ tried number rule one.0 stands (one.2 ∙ ap Some one.3) rule stands premises
    ]

pub closed_complete : (rules : List Rule) (log : List Step) (done : ℕ) → length log ≤ done → IsClosed rules log done → IsComplete rules log
closed_complete rules log done all closed number rule stands premises =
    closed number rule stands (λ k premise has.
    let logged = premises k premise has in
    let within = at_within log logged.0 premise logged.1 in
    (logged.0, omega (arith, within, all), logged.1))

some_of : (o : Option ℕ) → IsSome o → (place : ℕ) × (o ≡ Some place)
some_of None some = absurd cc
some_of (Some place) some = (place, refl)

-- A fact has a place exactly where it follows.
pub placed_exactly : (rules : List Rule) (log : List Step) (fact : ℕ) → IsLog rules log → IsComplete rules log
    → IsSome (place_of log fact) ↔ Follows rules fact
placed_exactly rules log fact is complete = (
  λ some.
      let place = some_of (place_of log fact) some in
      logged_follow rules log place.0 fact is (place_stands log fact place.0 place.1),
  λ follows.
      let logged = follow_logged rules log fact complete follows in
      let place = has_place log fact logged.0 logged.1 in
      ap is_some place.1,
)

pub placed_in : (chain : Chain) (fact : ℕ) (place : Option ℕ) → IsChain chain → place ≡ place_of chain.log fact → IsSome place ↔ Follows chain.rules fact
placed_in chain fact place is same =
    subst (λ (o : Option ℕ). IsSome o ↔ Follows chain.rules fact) (sym same) (placed_exactly chain.rules chain.log fact is.log is.complete)

pub item_at : (log : Log) (steps : List Step) (place fact : ℕ) (d : Step) → steps ≡ log.steps → place < length log.steps → fact ≡ (get_or steps place d).fact
    → IsAt log.steps place fact
item_at log steps place fact d same within is =
    subst (λ (all : List Step). IsAt all place fact) same (subst (IsAt steps place) (sym is)
    (at_of_step steps place (get_or steps place d)
    (slice_get-get_or steps place d (subst (λ (all : List Step). place < length all) (sym same) within))))
