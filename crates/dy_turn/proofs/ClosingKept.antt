-- At the end, where one seat has all room, it has seen the whole history, and the value is at home.
use Rattle.std.proofs.Common.{◌≡◌, ℕ, ◌<◌, ◌≤◌, List, length, ap, sym, ◌∙◌, subst, arith, lt_of_not-le}
use mathlib.Core.Option.{some, some-injective}
use lib.ListN.{get_elem?}
use native.Mathlib.Decide.{dec_le}
use Rattle.std.specs.Prelude.{Option, Some, None}
use Rattle.atomic_table.specs.Table.{State, Final, Seen}
use Rattle.dy_turn.specs.declared.known.Origin.{Origin}
use Rattle.dy_turn.specs.declared.known.Stage.TheVariants.{Idle}
use Rattle.dy_turn.specs.declared.known.Known.{Known}
use Rattle.dy_turn.specs.Views.{one_if_working_with, workers_with, parts}
use Rattle.dy_turn.specs.Rule.{IsTurned, IsLive}
use Rattle.dy_turn.proofs.Ranges.{one_if_between-in}
use Rattle.dy_turn.proofs.Sums.{sum_by-alone}
use Rattle.dy_turn.proofs.Prefixes.{prefix_whole}
use Rattle.dy_turn.proofs.Fitting.{live, owns_all}

module _ {T I : Type 0} (history : T → List I) (same_base : T → T → Type 0) (origin : Origin T) where
  module _ (s : State (Option T) (Known T I)) (kept : IsTurned history same_base origin s) (id : ℕ) (v : Known T I) (at : get_elem? s.views id ≡ some v) (some_parts : 0 < v.parts) (whole : v.parts ≡ origin.seats) where
    saw_all : v.saw ≡ kept.log
    saw_all = prefix_whole v.saw kept.log is.seen (by_length (dec_le (length kept.log) (length v.saw)))
      where
        is : IsLive origin kept.log v
        is = live s kept id v at some_parts

        by_length : Dec (length kept.log ≤ length v.saw) → length kept.log ≤ length v.saw
        by_length (yes le) = le
        by_length (no more) =
            let k : ℕ = length v.saw in
            omega (arith, owns_all s kept id v at some_parts whole k, is.bound k (omega arith), one_if_between-in origin.start (length kept.log) k is.started (lt_of_not-le more))

    nobody_works : v.stage ≡ Idle → kept.next ≡ kept.served
    nobody_works idle = by_order (dec_le kept.next kept.served)
      where
        by_order : Dec (kept.next ≤ kept.served) → kept.next ≡ kept.served
        by_order (yes le) = let next = kept.order in omega arith
        by_order (no more) =
            let k : ℕ = kept.served in
            let alone = sum_by-alone (workers_with k) parts s.views id v at (λ j u here none. ap (one_if_working_with k) ((kept.each j u here).1 none).idle) (kept.rooms ∙ sym whole) in
            let mine : one_if_working_with k v.stage ≡ 0 = ap (one_if_working_with k) idle in
            absurd (omega (arith, kept.working k, one_if_between-in kept.served kept.next k (omega arith) (lt_of_not-le more)))

  -- what lies in the slot at the end
  pub record Ends (slot : Option T) (v : Known T I) : Type 0 where
    pub some_value : slot ≡ None → ⊥
    pub shown : (value : T) → slot ≡ Some value → history value ≡ v.saw
    pub based : (value : T) → slot ≡ Some value → same_base origin.first.value value

  pub ends : (id : ℕ) (v : Known T I) (words : List ℕ) (slots : List (Option T)) (slot : Option T) → Final (Seen (IsTurned history same_base origin) id v) words slots → get_elem? slots 0 ≡ some slot
      → 0 < v.parts → v.parts ≡ origin.seats → v.stage ≡ Idle → Ends slot v
  ends id v words slots slot final found some_parts whole idle =
      let s = final.0 in
      let kept = final.1.0 in
      let at = final.1.1 in
      let home = kept.home (nobody_works s kept id v at some_parts whole idle) in
      let is : Some home.0 ≡ slot = some-injective _ _ (sym (final.4 0 (Some home.0) (ap (λ hs. get_elem? hs 0) home.1)) ∙ found) in
      record {
        some_value = λ none. let e : Some home.0 ≡ None = is ∙ none in absurd (cc);
        shown = λ value e. let same : home.0 ≡ value = cc (is ∙ e) in subst (λ x. history x ≡ v.saw) same (home.2 ∙ sym (saw_all s kept id v at some_parts whole));
        based = λ value e. let same : home.0 ≡ value = cc (is ∙ e) in subst (λ x. same_base origin.first.value x) same home.3;
      }
