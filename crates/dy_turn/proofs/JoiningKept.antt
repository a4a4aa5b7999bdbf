-- Joining two seats keeps the rule: the one has what both had, the other is spent, and all parts together stay.
use Rattle.std.proofs.Common.{◌≡◌, ◌≢◌, ℕ, ◌+◌, ◌<◌, ◌≤◌, List, length, set, refl, ap, sym, ◌∙◌, ⊎_elim, arith}
use mathlib.Core.Option.{some}
use lib.ListN.{get_elem?}
use Rattle.std.specs.List.{sum_by}
use Rattle.atomic_table.specs.Table.{Joins}
use Rattle.atomic_table.proofs.Lists.{at_set, set_else}
use Rattle.dy_turn.specs.declared.known.Origin.{Origin}
use Rattle.dy_turn.specs.declared.known.Stage.TheVariants.{Idle}
use Rattle.dy_turn.specs.declared.known.Known.{Known}
use Rattle.dy_turn.specs.Indices.{times}
use Rattle.dy_turn.specs.Views.{one_if_waiting, one_if_waiting_with, one_if_working_with, waiters, waiters_with, workers_with, owners, parts, both_seats, spent_seat}
use Rattle.dy_turn.specs.Rule.{IsTurned, Fits}
use Rattle.dy_turn.proofs.Ranges.{times-union_of, one_if_between-most}
use Rattle.dy_turn.proofs.Rising.{is_rising-union_of}
use Rattle.dy_turn.proofs.Prefixes.{longer_fits}
use Rattle.dy_turn.proofs.Sums.{one_of, sum_by-set_at, sum_by-set_same}
use Rattle.dy_turn.proofs.Fitting.{live}
use Rattle.dy_turn.proofs.Changing.{at_changed, each_changed}

module _ {T I : Type 0} (history : T → List I) (same_base : T → T → Type 0) (origin : Origin T) where
  pub joins : (id : ℕ) (v : Known T I) (other : ℕ) (x : Known T I) → 0 < v.parts → 0 < x.parts → v.stage ≡ Idle → x.stage ≡ Idle
      → Joins (IsTurned history same_base origin) id v other x (both_seats v x) spent_seat
  joins id v other x positive positive' idle idle' s kept at apart there =
      let both : Known T I = both_seats v x in
      let spent : Known T I = spent_seat in
      let vs : List (Known T I) = set s.views id both in
      let before : get_elem? s.views other ≡ some x =
      ⊎_elim (λ (e : (other ≡ id) × (both ≡ x)). absurd (apart e.0)) (λ (e : (other ≢ id) × (get_elem? s.views other ≡ some x)). e.1) (at_set s.views id other both x there) in
      let is = live s kept id v at positive in
      let theirs = live s kept other x before positive' in
      let longer = longer_fits v.saw x.saw kept.log is.seen theirs.seen in
      let owned : (k : ℕ) → sum_by (owners k) (set vs other spent) ≡ sum_by (owners k) s.views = λ k.
      omega (arith, sum_by-set_at (owners k) s.views id v both at, sum_by-set_at (owners k) vs other x spent there, times-union_of k v.own x.own) in
      let once : (k : ℕ) → times k v.own + times k x.own ≤ 1 = λ k.
      let here : get_elem? (set vs other spent) id ≡ some both = set_else vs other id spent (λ e. apart (sym e)) ∙ at_changed s.views id v both at in
      omega (arith, one_of (owners k) (set vs other spent) id both here, owned k, times-union_of k v.own x.own, kept.owned k, one_if_between-most origin.start (length kept.log) k) in
      record {
        log = kept.log;
        drawn = kept.drawn;
        served = kept.served;
        next = kept.next;
        words = kept.words;
        order = kept.order;
        line = omega (arith, sum_by-set_same waiters s.views id v both at refl, sum_by-set_same waiters vs other x spent there (ap one_if_waiting idle'), kept.line);
        waiting = λ k. sum_by-set_same (waiters_with k) vs other x spent there (ap (one_if_waiting_with k) idle') ∙ (sum_by-set_same (waiters_with k) s.views id v both at refl ∙ kept.waiting k);
        working = λ k. sum_by-set_same (workers_with k) vs other x spent there (ap (one_if_working_with k) idle') ∙ (sum_by-set_same (workers_with k) s.views id v both at refl ∙ kept.working k);
        home = kept.home;
        away = kept.away;
        owned = λ k. owned k ∙ kept.owned k;
        rooms = omega (arith, sum_by-set_at parts s.views id v both at, sum_by-set_at parts vs other x spent there, kept.rooms);
        few = kept.few;
        each = each_changed (Fits origin kept.log) vs other spent ((λ some_left. absurd (omega arith)), λ _. record { nothing = refl; idle = refl })
            (λ j u _ here. each_changed (Fits origin kept.log) s.views id both (
              (λ _. record {
                same = is.same;
                seen = longer.begins;
                whole = λ ticket works. absurd (cc);
                told = longer.told;
                started = omega (arith, is.started, longer.first);
                rising = is_rising-union_of v.own x.own is.rising theirs.rising once;
                bound = λ k far. omega (arith, times-union_of k v.own x.own, is.bound k (omega (arith, longer.first)), theirs.bound k (omega (arith, longer.second)));
              }),
              λ none_left. absurd (omega arith),
            )
            (λ i y _ at'. kept.each i y at') j u here);
      }
