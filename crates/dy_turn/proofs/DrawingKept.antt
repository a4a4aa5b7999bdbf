-- Drawing a ticket keeps the rule: the number of tickets drawn changes, and whose the new one is.
use Rattle.std.proofs.Common.{◌≡◌, ℕ, ◌+◌, ◌%◌, ◌^◌, ◌<◌, ◌≤◌, List, [], ◌∷◌, length, ap, refl, ◌∙◌, arith}
use mathlib.Core.Option.{none}
use Rattle.std.specs.Prelude.{Option, slice_index, slice_set}
use Rattle.atomic_table.specs.Table.{Me, Allows, step, keeps}
use Rattle.dy_turn.specs.declared.known.Origin.{Origin}
use Rattle.dy_turn.specs.declared.known.Stage.TheVariants.{Idle, Waiting}
use Rattle.dy_turn.specs.declared.known.Known.{Known}
use Rattle.dy_turn.specs.Views.{one_if_waiting, one_if_waiting_with, one_if_working_with, waiters, waiters_with, workers_with, owners, parts, at_stage}
use Rattle.dy_turn.specs.Rule.{IsTurned, Fits}
use Rattle.dy_turn.specs.Steps.{Draws}
use Rattle.dy_turn.proofs.Ranges.{enters_range}
use Rattle.dy_turn.proofs.Sums.{sum_by-set_at, sum_by-set_same}
use Rattle.dy_turn.proofs.Fitting.{live}
use Rattle.dy_turn.proofs.Changing.{each_changed, wraps}

module _ {T I : Type 0} (history : T → List I) (same_base : T → T → Type 0) (origin : Origin T) where
  pub draws : (slots id : ℕ) (me : Me (Option T) (Known T I)) → me.0.stage ≡ Idle → 0 < me.0.parts
      → Allows (IsTurned history same_base origin) slots id me 1 (λ n. (n + 1) % 2 ^ 64) (Draws (step slots 1 1 0 none) me)
  draws slots id me idle some_parts s kept _ at _ =
      let v : Known T I = me.0 in
      let w : Known T I = at_stage v (Waiting kept.drawn) in
      let is = live s kept id v at some_parts in
      let open_below : kept.next ≤ kept.drawn = omega (arith, kept.line) in (
        w,
        keeps,
        tt,
        record {
          log = kept.log;
          drawn = kept.drawn + 1;
          served = kept.served;
          next = kept.next;
          words = ap (λ ws. slice_set ws 1 ((slice_index ws 1 + 1) % 2 ^ 64)) kept.words ∙ ap (λ n. length kept.log ∷ n ∷ (kept.served % 2 ^ 64) ∷ []) (wraps kept.drawn);
          order = kept.order;
          line = let none_waits : waiters v ≡ 0 = ap one_if_waiting idle in omega (arith, sum_by-set_at waiters s.views id v w at, kept.line);
          waiting = λ k.
              let none_waits : waiters_with k v ≡ 0 = ap (one_if_waiting_with k) idle in
              enters_range kept.next kept.drawn kept.drawn k _ _ refl open_below (omega (arith, sum_by-set_at (waiters_with k) s.views id v w at)) (kept.waiting k);
          working = λ k. sum_by-set_same (workers_with k) s.views id v w at (ap (one_if_working_with k) idle) ∙ kept.working k;
          home = kept.home;
          away = kept.away;
          owned = λ k. sum_by-set_same (owners k) s.views id v w at refl ∙ kept.owned k;
          rooms = sum_by-set_same parts s.views id v w at refl ∙ kept.rooms;
          few = kept.few;
          each = each_changed (Fits origin kept.log) s.views id w (
            (λ _. record { same = is.same; seen = is.seen; whole = λ ticket works. absurd (cc); told = is.told; started = is.started; rising = is.rising; bound = is.bound }),
            λ none_left. absurd (omega arith),
          )
              (λ j u _ there. kept.each j u there);
        },
        (kept.drawn, ap (λ ws. slice_index ws 1) kept.words, refl),
      )
