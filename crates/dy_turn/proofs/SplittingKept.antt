-- Splitting a seat keeps the rule: the new seat is one more, and all parts together stay.
use Rattle.std.proofs.Common.{◌≡◌, ℕ, ◌<◌, List, set, refl, subst, ⊎_elim, arith}
use Rattle.atomic_table.specs.Table.{Splits}
use Rattle.atomic_table.proofs.Lists.{at_snoc}
use Rattle.dy_turn.specs.declared.known.Origin.{Origin}
use Rattle.dy_turn.specs.declared.known.Known.{Known}
use Rattle.dy_turn.specs.Views.{waiters, waiters_with, workers_with, owners, parts, rest_of, new_seat}
use Rattle.dy_turn.specs.Rule.{IsTurned, Fits}
use Rattle.dy_turn.proofs.Sums.{sum_by-set_at, sum_by-set_same, sum_by-more}
use Rattle.dy_turn.proofs.Fitting.{live}
use Rattle.dy_turn.proofs.Changing.{each_changed}

module _ {T I : Type 0} (history : T → List I) (same_base : T → T → Type 0) (origin : Origin T) where
  pub splits : (id : ℕ) (v : Known T I) (n : ℕ) → 0 < n → n < v.parts → Splits (IsTurned history same_base origin) id v (rest_of n v) (new_seat n v)
  splits id v n positive less s kept at =
      let left : Known T I = rest_of n v in
      let right : Known T I = new_seat n v in
      let vs : List (Known T I) = set s.views id left in
      let is = live s kept id v at (omega arith) in
      record {
        log = kept.log;
        drawn = kept.drawn;
        served = kept.served;
        next = kept.next;
        words = kept.words;
        order = kept.order;
        line = omega (arith, sum_by-set_same waiters s.views id v left at refl, sum_by-more waiters vs right, kept.line);
        waiting = λ k. omega (arith, sum_by-set_same (waiters_with k) s.views id v left at refl, sum_by-more (waiters_with k) vs right, kept.waiting k);
        working = λ k. omega (arith, sum_by-set_same (workers_with k) s.views id v left at refl, sum_by-more (workers_with k) vs right, kept.working k);
        home = kept.home;
        away = kept.away;
        owned = λ k. omega (arith, sum_by-set_same (owners k) s.views id v left at refl, sum_by-more (owners k) vs right, kept.owned k);
        rooms = omega (arith, sum_by-set_at parts s.views id v left at, sum_by-more parts vs right, kept.rooms);
        few = kept.few;
        each = λ j u there. ⊎_elim
            (λ old. each_changed (Fits origin kept.log) s.views id left ((λ _. record { same = is.same; seen = is.seen; whole = is.whole; told = is.told; started = is.started; rising = is.rising; bound = is.bound }), λ none_left. absurd (omega arith))
            (λ i x _ here. kept.each i x here) j u old)
            (λ (new : right ≡ u). subst (Fits origin kept.log) new (
              (λ _. record { same = is.same; seen = is.seen; whole = λ ticket works. absurd (cc); told = (v.saw, refl); started = is.started; rising = refl; bound = λ k far. refl }),
              λ none_left. absurd (omega arith),
            ))
            (at_snoc vs right u j there);
      }
