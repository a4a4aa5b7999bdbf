-- Watchers that are found from the newest back, and rules that are tried at them.
use Rattle.std.proofs.Common.{◌≡◌, ℕ, zero, suc, ◌+◌, ◌<◌, ◌≤◌, List, [], ◌∷◌, ◌++◌, length, map, replicate, get_or, Option, Some, None, inl, inr, refl, ap, sym, subst, ◌∙◌, arith, append_assoc}
use Rattle.std.proofs.Math.ListN.{set}
use Rattle.std.proofs.lemmas.List.{length-map, map-append, length-append, get_or-set_same, get_or-set_other, append-nil}
use Rattle.std.proofs.lemmas.Bool.{cases_eq, cases_lt, cases_order}
use Rattle.std.proofs.lemmas.Option.{slice_get_within, slice_get-get_or, same_Some}
use Rattle.std.specs.List.{slice_get}
use Rattle.dy_chains.specs.declared.rules.Rule.{Rule}
use Rattle.dy_chains.specs.declared.logs.Step.{Step}
use Rattle.dy_chains.specs.Logs.{IsAt}
use Rattle.dy_chains.specs.declared.watchers.Watcher as code
use Rattle.dy_chains.specs.Lists.{Extends}
use Rattle.dy_chains.specs.Rules.{EachPremise}
use Rattle.dy_chains.specs.MirrorLogs.{Log, Gains, IsTried, IsClosed}
use Rattle.dy_chains.specs.MirrorWatchers.{Watcher, watcher_of, IsOf, IsLastBefore, AreLinked, IsListed, AreWatchedTo, AreWatchedFrom, AreWatched}
use Rattle.dy_chains.specs.MirrorFiring.{IsWalked, IsDone}
use Rattle.dy_chains.proofs.Lists.{in_longer, in_shorter, in_more, in_last, in_either}
use Rattle.dy_chains.proofs.LoggedFacts.{gains_none, gains_then, gains_length, tried_later, tried_of_fewer, closed_more}
use Rattle.dy_chains.proofs.Places.{at_in_longer}

of_longer : (watchers more : List Watcher) (fact place : ℕ) → IsOf watchers fact place → IsOf (watchers ++ more) fact place
of_longer watchers more fact place of = (of.0, in_longer watchers more place _ of.1)

of_shorter : (watchers more : List Watcher) (fact place : ℕ) → place < length watchers → IsOf (watchers ++ more) fact place → IsOf watchers fact place
of_shorter watchers more fact place within of = (of.0, in_shorter watchers more place _ within of.1)

last_later : (watchers more : List Watcher) (bound fact : ℕ) (o : Option ℕ) → bound ≤ length watchers → IsLastBefore watchers bound fact o
    → IsLastBefore (watchers ++ more) bound fact o
last_later watchers more bound fact None within never = λ place below of.
    never place below (of_shorter watchers more fact place (omega (arith, below, within)) of)
last_later watchers more bound fact (Some last) within is = (
  is.0,
  of_longer watchers more fact last is.1,
  λ place after below of.
      is.2 place after below (of_shorter watchers more fact place (omega (arith, below, within)) of),
)

-- A watcher of another fact changes nothing.
last_past : (watchers : List Watcher) (w : Watcher) (fact : ℕ) (o : Option ℕ) → (w.fact ≡ fact → ⊥) → IsLastBefore watchers (length watchers) fact o
    → IsLastBefore (watchers ++ w ∷ []) (length watchers + 1) fact o
last_past watchers w fact None other never = λ place below of. elim (in_more watchers w place _ of.1) [
  | inl before ↦ never place (slice_get_within watchers place _ before) (of.0, before)
  | inr here ↦ other (ap (λ (v : Watcher). v.fact) here.1)
]
last_past watchers w fact (Some last) other is =
    let below = is.0 in (
      omega (arith, below),
      of_longer watchers (w ∷ []) fact last is.1,
      λ place after within of. elim (in_more watchers w place _ of.1) [
        | inl before ↦ is.2 place after (slice_get_within watchers place _ before) (of.0, before)
        | inr here ↦ other (ap (λ (v : Watcher). v.fact) here.1)
      ],
    )

-- The newest watcher of its fact is the last.
last_new : (watchers : List Watcher) (w : Watcher) → IsLastBefore (watchers ++ w ∷ []) (length watchers + 1) w.fact (Some (length watchers))
last_new watchers w = (omega arith, (w.rule, in_last watchers w), λ place after below of. absurd (omega (arith, after, below)))

length-watchers : (watchers : List code.Watcher) → length (map watcher_of watchers) ≡ length watchers
length-watchers watchers = length-map watchers watcher_of

-- what stands within a list does not depend on the default
pub at_default : {A : Type 0} (xs : List A) (i : ℕ) (x d : A) → i < length xs → x ≡ get_or xs i x → x ≡ get_or xs i d
at_default xs i x d within is = is ∙ same_Some _ _ (sym (slice_get-get_or xs i x within) ∙ slice_get-get_or xs i d within)

-- A new watcher that knows the one before it.
pub linked_more : (watchers : List code.Watcher) (newest : List (Option ℕ)) (w : code.Watcher) → AreLinked watchers newest
    → w.fact < length newest → w.before ≡ get_or newest w.fact None
    → AreLinked (watchers ++ w ∷ []) (set newest w.fact (Some (length watchers)))
linked_more watchers newest w linked within before =
    let all : map watcher_of (watchers ++ w ∷ []) ≡ map watcher_of watchers ++ watcher_of w ∷ [] = map-append watcher_of watchers (w ∷ []) in
    let long = length-watchers watchers in
    let longer : length (watchers ++ w ∷ []) ≡ length watchers + 1 = length-append watchers (w ∷ []) in
    record {
      before = λ place watcher at. subst (λ (ws : List Watcher). IsLastBefore ws place watcher.fact watcher.before) (sym all) (elim (in_more watchers w place watcher at) [
        | inl earlier ↦
            let below = slice_get_within watchers place watcher earlier in
            last_later (map watcher_of watchers) (watcher_of w ∷ []) place watcher.fact watcher.before (omega (arith, below, long)) (linked.before place watcher earlier)
        | inr here ↦
            let index = here.0 in
            last_later (map watcher_of watchers) (watcher_of w ∷ []) place watcher.fact watcher.before (omega (arith, index, long))
            (subst (λ (v : code.Watcher). IsLastBefore (map watcher_of watchers) place v.fact v.before) here.1
            (subst (λ (n : ℕ). IsLastBefore (map watcher_of watchers) n w.fact w.before) (sym index)
            (subst (IsLastBefore (map watcher_of watchers) (length watchers) w.fact) (sym before) (linked.last w.fact))))
      ]);
      last = λ fact. subst (λ (ws : List Watcher). IsLastBefore ws (length (watchers ++ w ∷ [])) fact (get_or (set newest w.fact (Some (length watchers))) fact None)) (sym all)
          (subst (λ (n : ℕ). IsLastBefore (map watcher_of watchers ++ watcher_of w ∷ []) n fact (get_or (set newest w.fact (Some (length watchers))) fact None)) (sym longer)
          (elim (cases_eq w.fact fact) [
            | inl same ↦
                let is : get_or (set newest w.fact (Some (length watchers))) fact None ≡ Some (length watchers) =
                ap (λ (n : ℕ). get_or (set newest w.fact (Some (length watchers))) n None) (sym same)
                ∙ get_or-set_same newest w.fact (Some (length watchers)) None within in
                subst (IsLastBefore (map watcher_of watchers ++ watcher_of w ∷ []) (length watchers + 1) fact) (sym is)
                (subst (λ (f : ℕ). IsLastBefore (map watcher_of watchers ++ watcher_of w ∷ []) (length watchers + 1) f (Some (length watchers))) same
                (subst (λ (n : ℕ). IsLastBefore (map watcher_of watchers ++ watcher_of w ∷ []) (n + 1) w.fact (Some n)) long (last_new (map watcher_of watchers) (watcher_of w))))
            | inr other ↦
                let is : get_or (set newest w.fact (Some (length watchers))) fact None ≡ get_or newest fact None =
                get_or-set_other newest w.fact fact (Some (length watchers)) None (λ same. other (sym same)) in
                subst (IsLastBefore (map watcher_of watchers ++ watcher_of w ∷ []) (length watchers + 1) fact) (sym is)
                (subst (λ (n : ℕ). IsLastBefore (map watcher_of watchers ++ watcher_of w ∷ []) (n + 1) fact (get_or newest fact None)) long
                (last_past (map watcher_of watchers) (watcher_of w) fact (get_or newest fact None) other
                (subst (λ (n : ℕ). IsLastBefore (map watcher_of watchers) n fact (get_or newest fact None)) (sym long) (linked.last fact))))
          ]));
    }

-- What is kept as the newest watcher of a fact is the last.
pub newest_is : (watchers : List code.Watcher) (newest : List (Option ℕ)) (fact : ℕ) (o : Option ℕ) → AreLinked watchers newest
    → get_or newest fact None ≡ o → IsLastBefore (map watcher_of watchers) (length (map watcher_of watchers)) fact o
newest_is watchers newest fact o linked is =
    subst (λ (n : ℕ). IsLastBefore (map watcher_of watchers) n fact o) (sym (length-watchers watchers))
    (subst (IsLastBefore (map watcher_of watchers) (length watchers) fact) is (linked.last fact))

none_in_more : (newest : List (Option ℕ)) (more fact : ℕ) → get_or (newest ++ replicate more None) fact None ≡ get_or newest fact None
none_in_more [] zero fact = refl
none_in_more [] (suc more) zero = refl
none_in_more [] (suc more) (suc fact) = none_in_more [] more fact
none_in_more (o ∷ newest) more zero = refl
none_in_more (o ∷ newest) more (suc fact) = none_in_more newest more fact

pub linked_still : (watchers : List code.Watcher) (newest : List (Option ℕ)) (more : ℕ) → AreLinked watchers newest
    → AreLinked watchers (newest ++ replicate more None)
linked_still watchers newest more linked = record {
  before = linked.before;
  last = λ fact. subst (IsLastBefore (map watcher_of watchers) (length watchers) fact) (sym (none_in_more newest more fact)) (linked.last fact);
}

pub listed_later : (a b : List Watcher) (number fact : ℕ) → Extends a b → IsListed a number fact → IsListed b number fact
listed_later a b number fact extends listed =
    (listed.0, ap (λ (ws : List Watcher). slice_get ws listed.0) extends.1 ∙ in_longer a extends.0 listed.0 _ listed.1)

pub extends_none : {A : Type 0} (xs : List A) → Extends xs xs
extends_none xs = ([], sym (append-nil xs))

pub extends_then : {A : Type 0} (xs ys zs : List A) → Extends xs ys → Extends ys zs → Extends xs zs
extends_then {A} xs ys zs first second =
    (first.0 ++ second.0, second.1 ∙ ap (λ (all : List A). all ++ second.0) first.1 ∙ append_assoc xs first.0 second.0)

pub watched_none : (first : ℕ) (watchers : List Watcher) (rules : List Rule) → AreWatchedTo 0 first watchers watchers rules
watched_none first watchers rules = record { extends = extends_none watchers; watched = λ number rule before at. absurd (omega (arith, before)) }

pub watched_next : (end first : ℕ) (old mid new : List Watcher) (rules : List Rule) (rule : Rule) → AreWatchedTo end first old mid rules
    → slice_get rules end ≡ Some rule → Extends mid new → EachPremise (IsListed new (first + end)) rule → AreWatchedTo (end + 1) first old new rules
watched_next end first old mid new rules rule before stands extends listed = record {
  extends = extends_then old mid new before.extends extends;
  watched = λ number other below at. elim (cases_lt number end) [
    | inl earlier ↦ λ k premise has. listed_later mid new (first + number) premise extends (before.watched number other earlier at k premise has)
    | inr last ↦
        let same : number ≡ end = omega (arith, below, last) in
        let is : rule ≡ other = same_Some rule other (sym stands ∙ ap (slice_get rules) (sym same) ∙ at) in
        subst (λ (r : Rule). EachPremise (IsListed new (first + number)) r) is
        (subst (λ (n : ℕ). EachPremise (IsListed new (first + n)) rule) (sym same) listed)
  ];
}

pub watched_next_item : (end first : ℕ) (old mid new : List Watcher) (rules : List Rule) (d : Rule) → end < length rules → AreWatchedTo end first old mid rules
    → Extends mid new → EachPremise (IsListed new (first + end)) (get_or rules end d) → AreWatchedTo (end + 1) first old new rules
watched_next_item end first old mid new rules d within before extends listed =
    watched_next end first old mid new rules (get_or rules end d) before (slice_get-get_or rules end d within) extends listed

pub watched_all : (end first : ℕ) (old new : List Watcher) (rules : List Rule) → length rules ≤ end → AreWatchedTo end first old new rules
    → AreWatchedFrom first new rules
watched_all end first old new rules all to number rule at =
    let within = slice_get_within rules number rule at in to.watched number rule (omega (arith, within, all)) at

-- More rules, each of which is listed at its premises.
pub watched_more : (a b : List Watcher) (rules more : List Rule) → Extends a b → AreWatched a rules → AreWatchedFrom (length rules) b more
    → AreWatched b (rules ++ more)
watched_more a b rules more extends watched from number rule stands k premise has = elim (in_either rules more number rule stands) [
  | inl before ↦ listed_later a b number premise extends (watched number rule before k premise has)
  | inr after ↦ subst (λ (n : ℕ). IsListed b n premise) (sym after.1) (from after.0 rule after.2 k premise has)
]

pub watched_later : (a b : List Watcher) (rules : List Rule) → Extends a b → AreWatched a rules → AreWatched b rules
watched_later a b rules extends watched number rule stands k premise has = listed_later a b number premise extends (watched number rule stands k premise has)

-- the places that may be left
abbrev pub places_left : Option ℕ → ℕ
places_left None = 0
places_left (Some place) = place + 1

fewer_than : (watchers : List Watcher) (place fact : ℕ) (before : Option ℕ) → IsLastBefore watchers place fact before → places_left before < place + 1
fewer_than watchers place fact None last = omega arith
fewer_than watchers place fact (Some earlier) last = let below = last.0 in omega (arith, below)

pub fewer_left : (watchers : List Watcher) (place fact : ℕ) (before next : Option ℕ) → next ≡ Some place → IsLastBefore watchers place fact before
    → places_left before < places_left next
fewer_left watchers place fact before next is last = subst (λ (o : Option ℕ). places_left before < places_left o) (sym is) (fewer_than watchers place fact before last)

module _ (rules : List Rule) (watchers : List Watcher) (fact : ℕ) where
  pub walk_begins : (log : Log) (next : Option ℕ) → IsLastBefore watchers (length watchers) fact next → IsWalked rules watchers fact log log next
  walk_begins log next last = record {
    bound = length watchers;
    within = omega arith;
    left = last;
    gains = gains_none rules log;
    tried = λ place number after at. let within = slice_get_within watchers place _ at in absurd (omega (arith, within, after));
  }

  walk_goes_on : (old mid new : Log) (place : ℕ) (w : Watcher) (before : Option ℕ) → IsWalked rules watchers fact old mid (Some place)
      → slice_get watchers place ≡ Some w → IsLastBefore watchers place w.fact before → Gains rules mid new
      → IsTried rules new.steps (length mid.steps) w.rule → IsWalked rules watchers fact old new before
  walk_goes_on old mid new place w before walked at last gains tried =
      let same : w.fact ≡ fact = ap (λ (v : Watcher). v.fact) (same_Some w _ (sym at ∙ walked.left.1.1)) in
      let below = walked.left.0 in
      let within = walked.within in
      let longer = gains_length rules old mid walked.gains in
      record {
        bound = place;
        within = omega (arith, below, within);
        left = subst (λ (f : ℕ). IsLastBefore watchers place f before) same last;
        gains = gains_then rules old mid new walked.gains gains;
        tried = λ other number after stands. elim (cases_order place other) [
          | inl here ↦
              let number_is : w.rule ≡ number = ap (λ (v : Watcher). v.rule) (same_Some w _ (sym at ∙ ap (slice_get watchers) here ∙ stands)) in
              subst (IsTried rules new.steps (length old.steps)) number_is (tried_of_fewer rules new.steps (length mid.steps) (length old.steps) w.rule longer tried)
          | inr more ↦ elim more [
            | inr less ↦ absurd (omega (arith, less, after))
            | inl past ↦ elim (cases_lt other walked.bound) [
              | inl between ↦ absurd (walked.left.2 other past between (number, stands))
              | inr beyond ↦ tried_later rules mid new (length old.steps) number gains longer (walked.tried other number beyond stands)
            ]
          ]
        ];
      }

  pub next_within : (old mid : Log) (place : ℕ) (next : Option ℕ) → IsWalked rules watchers fact old mid next → next ≡ Some place → place < length watchers
  next_within old mid place next walked is =
      let here = subst (IsWalked rules watchers fact old mid) is walked in
      let below = here.left.0 in
      let within = here.within in
      omega (arith, below, within)

  pub walk_ends : (old new : Log) → IsWalked rules watchers fact old new None → (number : ℕ) → IsListed watchers number fact
      → IsTried rules new.steps (length old.steps) number
  walk_ends old new walked number listed = elim (cases_lt listed.0 walked.bound) [
    | inl below ↦ absurd (walked.left listed.0 below (number, listed.1))
    | inr beyond ↦ walked.tried listed.0 number beyond listed.1
  ]

  pub walk_goes_on_from : (old mid new : Log) (place : ℕ) (w : Watcher) (before next : Option ℕ) → next ≡ Some place → IsWalked rules watchers fact old mid next
      → slice_get watchers place ≡ Some w → IsLastBefore watchers place w.fact before → Gains rules mid new
      → IsTried rules new.steps (length mid.steps) w.rule → IsWalked rules watchers fact old new before
  walk_goes_on_from old mid new place w before next is walked at last gains tried =
      walk_goes_on old mid new place w before (subst (IsWalked rules watchers fact old mid) is walked) at last gains tried

  pub walk_ends_unless : (old new : Log) (next : Option ℕ) → ((place : ℕ) → next ≡ Some place → ⊥) → IsWalked rules watchers fact old new next
      → (number : ℕ) → IsListed watchers number fact → IsTried rules new.steps (length old.steps) number
  walk_ends_unless old new None not walked = λ number listed. walk_ends old new walked number listed
  walk_ends_unless old new (Some place) not walked = absurd (not place refl)

pub done_none : (rules : List Rule) (log : Log) (done : ℕ) → done ≤ length log.steps → IsClosed rules log.steps done → IsDone rules log log done
done_none rules log done within closed = record { within = within; gains = gains_none rules log; closed = closed }

-- One fact more is done, where the rules that have it as a premise were tried.
pub done_more : (rules : List Rule) (watchers : List Watcher) (old mid new : Log) (done fact : ℕ) → AreWatched watchers rules → IsDone rules old mid done
    → done < length mid.steps → IsAt mid.steps done fact → Gains rules mid new
    → ((number : ℕ) → IsListed watchers number fact → IsTried rules new.steps (length mid.steps) number) → IsDone rules old new (done + 1)
done_more rules watchers old mid new done fact watched before within at gains tried =
    let longer = gains_length rules mid new gains in
    let all = before.within in
    record {
      within = omega (arith, within, longer);
      gains = gains_then rules old mid new before.gains gains;
      closed = closed_more rules new.steps done fact
          (subst (λ (steps : List Step). IsAt steps done fact) (sym gains.steps.1) (at_in_longer mid.steps gains.steps.0 done fact at))
          (λ number. tried_later rules mid new done number gains all (before.closed number))
          (λ number rule k stands has. tried_of_fewer rules new.steps (length mid.steps) (done + 1) number (omega (arith, within))
          (tried number (watched number rule stands k fact has)));
    }
