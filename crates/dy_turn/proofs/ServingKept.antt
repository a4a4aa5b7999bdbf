-- Looking which ticket is served keeps the rule: where it is the seat's own, who has the turn changes, and what that seat has seen.
use Rattle.std.proofs.Common.{◌≡◌, ℕ, ◌+◌, ◌%◌, ◌^◌, ◌<◌, ◌≤◌, Bool, MatchBool, List, ◌∷◌, length, set, refl, ap, sym, ◌∙◌, subst, arith, eq-eqb, ne_eqb}
use mathlib.Core.Option.{none, some}
use mathlib.Core.Logic.{dite}
use mathlib.Core.List.{IsPrefix}
use native.Mathlib.Decide.{ℕ_discrete}
use lib.ListN.{get_elem?}
use Rattle.std.specs.Prelude.{Option, Some, slice_index, slice_set}
use Rattle.std.specs.List.{sum_by}
use Rattle.atomic_table.specs.Table.{State, Me, Allows, step, Valid, stepped, keeps, takes}
use Rattle.atomic_table.proofs.Lists.{one_turn, set_again}
use Rattle.dy_turn.specs.declared.known.Origin.{Origin}
use Rattle.dy_turn.specs.declared.known.Stage.TheVariants.{Waiting, Working}
use Rattle.dy_turn.specs.declared.known.Known.{Known}
use Rattle.dy_turn.specs.Indices.{one_if_same}
use Rattle.dy_turn.specs.Views.{one_if_waiting, one_if_waiting_with, one_if_working_with, waiters, waiters_with, workers_with, owners, parts, ticket_of, at_stage, after_seeing}
use Rattle.dy_turn.specs.Rule.{IsTurned, Fits}
use Rattle.dy_turn.specs.Steps.{HasTurn, Serves}
use Rattle.dy_turn.proofs.Ranges.{one_if_between-some, leaves_range, enters_range}
use Rattle.dy_turn.proofs.Sums.{one_of, sum_by-set_at, sum_by-set_same}
use Rattle.dy_turn.proofs.Prefixes.{prefix_self, prefix_trans, prefix_length}
use Rattle.dy_turn.proofs.Fitting.{live, own_fits}
use Rattle.dy_turn.proofs.Changing.{at_changed, each_changed, one_if_waiting_with-mine, few_wait, unmoved}

module _ {T I : Type 0} (history : T → List I) (same_base : T → T → Type 0) (origin : Origin T) (id : ℕ) (me : Me (Option T) (Known T I)) (some_parts : 0 < me.0.parts) where
  module _ (waits : me.0.stage ≡ Waiting (ticket_of me.0.stage)) (s : State (Option T) (Known T I)) (kept : IsTurned history same_base origin s) (at : get_elem? s.views id ≡ some me.0) where
    abbrev t : ℕ
    t = ticket_of me.0.stage

    -- a ticket that waits is drawn, and does not work yet
    in_line : (kept.next ≤ t) × (t < kept.drawn)
    in_line =
        let one = one_of (waiters_with t) s.views id me.0 at in
        let mine : waiters_with t me.0 ≡ 1 = ap (one_if_waiting_with t) waits ∙ one_if_waiting_with-mine t in
        one_if_between-some kept.next kept.drawn t (omega (arith, kept.waiting t))

    -- of waiting tickets the remainder tells which is served
    is_served : slice_index s.words 2 ≡ t % 2 ^ 64 → kept.served ≡ t
    is_served found =
        let line = in_line in
        let few = few_wait s kept in
        let order = kept.order in
        one_turn kept.served t (2 ^ 64) (omega arith) (omega arith) (sym (ap (λ ws. slice_index ws 2) kept.words) ∙ found)

    -- the seat whose ticket is served has the turn: the value is in the slot, and the seat sees the whole history
    hit : slice_index s.words 2 ≡ t % 2 ^ 64
        → (w : Known T I) × (value : T) × (Valid s.homes me.1 (takes 0 (Some value))) × IsTurned history same_base origin (stepped s 2 (slice_index s.words 2) id me.1 w (takes 0 (Some value)))
        × HasTurn history same_base me t (w, (0, Some value) ∷ me.1)
    hit found =
        let served = is_served found in
        let line = in_line in
        let order = kept.order in
        let nobody_works : kept.next ≡ kept.served = omega arith in
        let some_wait : kept.served < kept.drawn = omega arith in
        let home = kept.home nobody_works in
        let value : T = home.0 in
        let shown : history value ≡ kept.log = home.2 in
        let v : Known T I = me.0 in
        let w : Known T I = after_seeing (at_stage v (Working t)) (history value) in
        let is = live s kept id v at some_parts in
        let longer : length v.saw ≤ length (history value) = omega (arith, prefix_length v.saw kept.log is.seen, ap length shown) in
        let seen : IsPrefix v.saw (history value) = subst (IsPrefix v.saw) (sym shown) is.seen in
        let kept' : IsTurned history same_base origin (stepped s 2 (slice_index s.words 2) id me.1 w (takes 0 (Some value))) = record {
          log = kept.log;
          drawn = kept.drawn;
          served = kept.served;
          next = kept.served + 1;
          words = ap (λ ws. slice_set ws 2 (slice_index ws 2)) kept.words;
          order = (omega arith, omega arith);
          line = let one_waits : waiters v ≡ 1 = ap one_if_waiting waits in omega (arith, sum_by-set_at waiters s.views id v w at, kept.line);
          waiting = λ k.
              let mine : waiters_with k v ≡ one_if_same kept.served k = ap (one_if_waiting_with k) waits ∙ ap (λ n. one_if_same n k) (sym served) in
              let less : sum_by (waiters_with k) (set s.views id w) + one_if_same kept.served k ≡ sum_by (waiters_with k) s.views = omega (arith, sum_by-set_at (waiters_with k) s.views id v w at) in
              leaves_range kept.served kept.next kept.drawn k _ _ nobody_works some_wait less (kept.waiting k);
          working = λ k.
              let mine : workers_with k v ≡ 0 = ap (one_if_working_with k) waits in
              let now : workers_with k w ≡ one_if_same kept.served k = ap (λ n. one_if_same n k) (sym served) in
              let more : sum_by (workers_with k) (set s.views id w) ≡ sum_by (workers_with k) s.views + one_if_same kept.served k = omega (arith, sum_by-set_at (workers_with k) s.views id v w at) in
              enters_range kept.served kept.next kept.served k _ _ nobody_works (omega arith) more (kept.working k);
          home = λ none_works. absurd (omega arith);
          away = λ _. ap (λ hs. slice_set hs 0 none) home.1;
          owned = λ k. sum_by-set_same (owners k) s.views id v w at refl ∙ kept.owned k;
          rooms = sum_by-set_same parts s.views id v w at refl ∙ kept.rooms;
          few = kept.few;
          each = each_changed (Fits origin kept.log) s.views id w (
            (λ _. record {
              same = is.same;
              seen = subst (λ log. IsPrefix log kept.log) (sym shown) (prefix_self kept.log);
              whole = λ _ _. shown;
              told = prefix_trans v.told v.saw (history value) is.told seen;
              started = omega (arith, is.started);
              rising = is.rising;
              bound = λ k far. is.bound k (omega arith);
            }),
            λ none_left. absurd (omega arith),
          )
              (λ j u _ there. kept.each j u there);
        } in (
          w,
          value,
          ap (λ hs. get_elem? hs 0) home.1,
          kept',
          record {
            value = value;
            now = refl;
            begins = seen;
            based = λ o known. subst (λ (x : Origin T). same_base x.first.value value) (some_origin (sym is.same ∙ known)) home.3;
            fits = own_fits (stepped s 2 (slice_index s.words 2) id me.1 w (takes 0 (Some value))) kept' id w (at_changed s.views id v w at) some_parts;
          },
        )
      where
        some_origin : {o : Origin T} → Some origin ≡ Some o → origin ≡ o
        some_origin e = cc

  pub serves : (slots : ℕ) → me.0.stage ≡ Waiting (ticket_of me.0.stage) → Allows (IsTurned history same_base origin) slots id me 2 (λ n. n) (Serves history same_base (step slots 2 0 0 none) me)
  serves slots waits s kept _ at _ =
      let found : ℕ = slice_index s.words 2 in
      let ticket : ℕ = ticket_of me.0.stage in
      let Told : Bool → Me (Option T) (Known T I) → Type 0 = λ b me'. MatchBool b (HasTurn history same_base me ticket me') (me' ≡ me) in
      dite (ℕ_discrete found (ticket % 2 ^ 64))
      (λ mine. let h = hit waits s kept at mine in (h.0, takes 0 (Some h.1), h.2, h.3, subst (λ b. Told b (h.0, (0, Some h.1) ∷ me.1)) (sym (eq-eqb found (ticket % 2 ^ 64) mine)) h.4))
      (λ other. (
        me.0,
        keeps,
        tt,
        unmoved s kept (slice_set s.words 2 found) (set s.views id me.0) (kept.words ∙ sym (ap (λ ws. slice_set ws 2 (slice_index ws 2)) kept.words)) (sym (set_again s.views id me.0 at)),
        subst (λ b. Told b me) (sym (ne_eqb found (ticket % 2 ^ 64) other)) refl,
      ))
