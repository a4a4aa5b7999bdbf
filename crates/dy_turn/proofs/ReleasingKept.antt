-- Serving the next ticket keeps the rule: the number of tickets served changes, who has the turn, and the value is in the slot again.
use Rattle.std.proofs.Common.{◌≡◌, ℕ, ◌+◌, ◌%◌, ◌^◌, ◌<◌, List, [], ◌∷◌, length, set, refl, ap, sym, ◌∙◌, arith}
use mathlib.Core.Option.{none, some}
use Rattle.std.specs.Prelude.{Option, Some, slice_index, slice_set}
use Rattle.std.specs.List.{sum_by}
use Rattle.atomic_table.specs.Table.{Me, Allows, step, gives, rest, put_back}
use Rattle.dy_turn.specs.declared.known.Origin.{Origin}
use Rattle.dy_turn.specs.declared.known.Stage.TheVariants.{Idle, Working}
use Rattle.dy_turn.specs.declared.known.Known.{Known}
use Rattle.dy_turn.specs.Indices.{one_if_same}
use Rattle.dy_turn.specs.Views.{one_if_waiting, one_if_waiting_with, one_if_working_with, waiters, waiters_with, workers_with, owners, parts, at_stage}
use Rattle.dy_turn.specs.Rule.{IsTurned, Fits}
use Rattle.dy_turn.specs.Steps.{Releases}
use Rattle.dy_turn.proofs.Ranges.{leaves_range}
use Rattle.dy_turn.proofs.Sums.{sum_by-set_at, sum_by-set_same}
use Rattle.dy_turn.proofs.Fitting.{live}
use Rattle.dy_turn.proofs.Changing.{each_changed, wraps, is_served_here}

module _ {T I : Type 0} (history : T → List I) (same_base : T → T → Type 0) (origin : Origin T) where
  pub releases : (slots id : ℕ) (me : Me (Option T) (Known T I)) (t : ℕ) → me.0.stage ≡ Working t → 0 < me.0.parts
      → (value : T) → me.1 ≡ (0, Some value) ∷ [] → history value ≡ me.0.saw → ((o : Origin T) → me.0.origin ≡ Some o → same_base o.first.value value)
      → Allows (IsTurned history same_base origin) slots id me 2 (λ n. (n + 1) % 2 ^ 64) (Releases (step slots 2 1 0 none) me)
  releases slots id me t works some_parts value carried shown based s kept _ at _ =
      let v : Known T I = me.0 in
      let w : Known T I = at_stage v Idle in
      let is = live s kept id v at some_parts in
      let here = is_served_here s kept id v t at works in
      let order = kept.order in (
        w,
        gives,
        tt,
        record {
          log = kept.log;
          drawn = kept.drawn;
          served = kept.served + 1;
          next = kept.next;
          words = ap (λ ws. slice_set ws 2 ((slice_index ws 2 + 1) % 2 ^ 64)) kept.words ∙ ap (λ n. length kept.log ∷ (kept.drawn % 2 ^ 64) ∷ n ∷ []) (wraps kept.served);
          order = (omega arith, omega arith);
          line = omega (arith, sum_by-set_same waiters s.views id v w at (ap one_if_waiting works), kept.line);
          waiting = λ k. sum_by-set_same (waiters_with k) s.views id v w at (ap (one_if_waiting_with k) works) ∙ kept.waiting k;
          working = λ k.
              let mine : workers_with k v ≡ one_if_same kept.served k = ap (one_if_working_with k) works ∙ ap (λ n. one_if_same n k) (sym here.0) in
              let less : sum_by (workers_with k) (set s.views id w) + one_if_same kept.served k ≡ sum_by (workers_with k) s.views = omega (arith, sum_by-set_at (workers_with k) s.views id v w at) in
              leaves_range kept.served kept.served kept.next k _ _ refl here.1 less (kept.working k);
          home = λ _. (value, ap (λ c. put_back s.homes c) carried ∙ ap (λ hs. slice_set hs 0 (some (Some value))) (kept.away here.1), shown ∙ is.whole t works, based origin is.same);
          away = λ far. absurd (omega arith);
          owned = λ k. sum_by-set_same (owners k) s.views id v w at refl ∙ kept.owned k;
          rooms = sum_by-set_same parts s.views id v w at refl ∙ kept.rooms;
          few = kept.few;
          each = each_changed (Fits origin kept.log) s.views id w (
            (λ _. record { same = is.same; seen = is.seen; whole = λ ticket works'. absurd (cc); told = is.told; started = is.started; rising = is.rising; bound = is.bound }),
            λ none_left. absurd (omega arith),
          )
              (λ j u _ there. kept.each j u there);
        },
        ap (λ c. (w, rest c)) carried,
      )
