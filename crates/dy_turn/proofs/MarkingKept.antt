-- Storing the length of a longer history keeps the rule: the history changes, what the seat has seen and what is its own.
use Rattle.std.proofs.Common.{◌≡◌, ℕ, ◌+◌, ◌%◌, ◌^◌, ◌<◌, List, [], ◌∷◌, length, set, refl, ap, sym, ◌∙◌, subst, arith, length-append}
use mathlib.Core.Option.{none}
use mathlib.Core.List.{IsPrefix}
use Rattle.std.specs.Prelude.{Option, slice_set}
use Rattle.std.specs.List.{sum_by}
use Rattle.std.proofs.lemmas.Bool.Decides.{nat_tests}
use Rattle.atomic_table.specs.Table.{Me, Allows, step, stepped, keeps}
use Rattle.dy_turn.specs.declared.known.Origin.{Origin}
use Rattle.dy_turn.specs.declared.known.Stage.TheVariants.{Working}
use Rattle.dy_turn.specs.declared.known.Known.{Known}
use Rattle.dy_turn.specs.Histories.{GrowsByOne}
use Rattle.dy_turn.specs.Indices.{one_if_same, one_if_between}
use Rattle.dy_turn.specs.Views.{waiters, waiters_with, workers_with, owners, parts, after_marking}
use Rattle.dy_turn.specs.Rule.{IsTurned, Fits}
use Rattle.dy_turn.specs.Steps.{Marks}
use Rattle.dy_turn.proofs.Ranges.{times-push, enters_range}
use Rattle.dy_turn.proofs.Rising.{is_rising-push}
use Rattle.dy_turn.proofs.Sums.{sum_by-set_at, sum_by-set_same}
use Rattle.dy_turn.proofs.Prefixes.{prefix_self, prefix_trans}
use Rattle.dy_turn.proofs.Fitting.{live, own_fits}
use Rattle.dy_turn.proofs.Changing.{at_changed, each_changed, is_served_here, works_alone}

-- a smaller index is another one
one_if_same-less : (n k : ℕ) → n < k → one_if_same n k ≡ 0
one_if_same-less n k less = grind (arith, nat_tests)

module _ {T I : Type 0} (history : T → List I) (same_base : T → T → Type 0) (origin : Origin T) where
  pub marks : (slots id : ℕ) (me : Me (Option T) (Known T I)) (t : ℕ) → me.0.stage ≡ Working t → 0 < me.0.parts
      → (log : List I) (count : ℕ) → GrowsByOne me.0.saw log → count ≡ length log
      → Allows (IsTurned history same_base origin) slots id me 0 (λ _. count) (λ _. Marks log (step slots 0 count 0 none) me count)
  marks slots id me t works some_parts log count grown counted s kept _ at _ =
      let v : Known T I = me.0 in
      let w : Known T I = after_marking v log in
      let is = live s kept id v at some_parts in
      let here = is_served_here s kept id v t at works in
      let whole : v.saw ≡ kept.log = is.whole t works in
      let same : length v.saw ≡ length kept.log = ap length whole in
      let longer : length log ≡ length v.saw + 1 = ap length grown.1 ∙ length-append v.saw (grown.0 ∷ []) in
      let longer' : length kept.log + 1 ≡ length log = omega arith in
      let begins : IsPrefix v.saw log = (grown.0 ∷ [], sym grown.1) in
      let begins' : IsPrefix kept.log log = subst (λ xs. IsPrefix xs log) whole begins in
      let kept' : IsTurned history same_base origin (stepped s 0 count id me.1 w keeps) = record {
        log = log;
        drawn = kept.drawn;
        served = kept.served;
        next = kept.next;
        words = ap (λ ws. slice_set ws 0 count) kept.words ∙ ap (λ n. n ∷ (kept.drawn % 2 ^ 64) ∷ (kept.served % 2 ^ 64) ∷ []) counted;
        order = kept.order;
        line = omega (arith, sum_by-set_same waiters s.views id v w at refl, kept.line);
        waiting = λ k. sum_by-set_same (waiters_with k) s.views id v w at refl ∙ kept.waiting k;
        working = λ k. sum_by-set_same (workers_with k) s.views id v w at refl ∙ kept.working k;
        home = λ nobody_works. absurd (omega arith);
        away = kept.away;
        owned = λ k.
            let pushed : owners k w ≡ owners k v + one_if_same (length kept.log) k = times-push k (length v.saw) v.own ∙ ap (λ n. owners k v + one_if_same n k) same in
            let more : sum_by (owners k) (set s.views id w) ≡ sum_by (owners k) s.views + one_if_same (length kept.log) k = omega (arith, sum_by-set_at (owners k) s.views id v w at) in
            enters_range origin.start (length kept.log) (length kept.log) k _ _ refl (omega (arith, is.started)) more (kept.owned k) ∙ ap (λ n. one_if_between origin.start n k) longer';
        rooms = sum_by-set_same parts s.views id v w at refl ∙ kept.rooms;
        few = kept.few;
        each = each_changed (Fits origin log) s.views id w (
          (λ _. record {
            same = is.same;
            seen = prefix_self log;
            whole = λ _ _. refl;
            told = prefix_trans v.told v.saw log is.told begins;
            started = omega (arith, is.started);
            rising = is_rising-push v.own (length v.saw) is.rising is.bound;
            bound = λ k far. omega (arith, times-push k (length v.saw) v.own, is.bound k (omega arith), one_if_same-less (length v.saw) k (omega arith));
          }),
          λ none_left. absurd (omega arith),
        )
            (λ j u other there.
            let fits = kept.each j u there in (
              (λ positive. let theirs = fits.0 positive in record {
                same = theirs.same;
                seen = prefix_trans u.saw kept.log log theirs.seen begins';
                whole = λ t' works'. absurd (works_alone s kept id v t at works j u t' other there works');
                told = theirs.told;
                started = theirs.started;
                rising = theirs.rising;
                bound = theirs.bound;
              }),
              fits.1,
            ));
      } in
      (w, keeps, tt, kept', (refl, own_fits (stepped s 0 count id me.1 w keeps) kept' id w (at_changed s.views id v w at) some_parts))
