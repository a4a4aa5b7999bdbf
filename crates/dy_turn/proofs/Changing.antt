-- What a step on one seat leaves as it is.
use Rattle.std.proofs.Common.{◌≡◌, ◌≢◌, ℕ, zero, suc, ◌+◌, ◌%◌, ◌^◌, ◌<◌, ◌≤◌, List, [], ◌∷◌, set, refl, ap, sym, ◌∙◌, subst, ⊎_elim, arith}
use mathlib.Core.Option.{some, some-ne-none}
use lib.ListN.{get_elem?}
use Rattle.std.specs.Prelude.{Option}
use Rattle.std.specs.List.{sum_by}
use Rattle.std.proofs.lemmas.Bool.Decides.{nat_tests}
use Rattle.atomic_table.specs.Table.{State}
use Rattle.atomic_table.proofs.Lists.{at_set, set_else}
use Rattle.dy_turn.specs.declared.known.Origin.{Origin}
use Rattle.dy_turn.specs.declared.known.Stage.{Stage}
use Rattle.dy_turn.specs.declared.known.Stage.TheVariants.{Idle, Waiting, Working}
use Rattle.dy_turn.specs.declared.known.Known.{Known}
use Rattle.dy_turn.specs.Views.{one_if_waiting, one_if_waiting_with, one_if_working_with, waiters, workers_with, parts, at_stage, spent_seat}
use Rattle.dy_turn.specs.Rule.{IsTurned, IsSpent}
use Rattle.dy_turn.proofs.Ranges.{one_if_between-some, one_if_between-in}
use Rattle.dy_turn.proofs.Sums.{one_of, sum_by-below, sum_by-none, sum_by-set_at}

module _ {V : Type 0} where
  pub at_changed : (vs : List V) (seat : ℕ) (v w : V) → get_elem? vs seat ≡ some v → get_elem? (set vs seat w) seat ≡ some w
  at_changed [] seat v w at = absurd (some-ne-none v (sym at))
  at_changed (x ∷ xs) zero v w at = refl
  at_changed (x ∷ xs) (suc seat) v w at = at_changed xs seat v w at

  -- what holds of the changed one, and held of all others, holds of all
  pub each_changed : (P : V → Type 0) (vs : List V) (seat : ℕ) (w : V) → P w → ((j : ℕ) (u : V) → j ≢ seat → get_elem? vs j ≡ some u → P u)
      → (j : ℕ) (u : V) → get_elem? (set vs seat w) j ≡ some u → P u
  each_changed P vs seat w mine others j u at =
      ⊎_elim (λ (x : (j ≡ seat) × (w ≡ u)). subst P x.1 mine) (λ (x : (j ≢ seat) × (get_elem? vs j ≡ some u)). others j u x.0 x.1) (at_set vs seat j w u at)

-- one more, modulo 2^64
pub wraps : (n : ℕ) → (n % 2 ^ 64 + 1) % 2 ^ 64 ≡ (n + 1) % 2 ^ 64
wraps n = omega arith

pub one_if_waiting_with-mine : (ticket : ℕ) → one_if_waiting_with ticket (Waiting ticket) ≡ 1
one_if_waiting_with-mine ticket = grind (arith, nat_tests)

pub one_if_working_with-mine : (ticket : ℕ) → one_if_working_with ticket (Working ticket) ≡ 1
one_if_working_with-mine ticket = grind (arith, nat_tests)

pub one_if_waiting-most : (stage : Stage) → one_if_waiting stage ≤ 1
one_if_waiting-most Idle = omega arith
one_if_waiting-most (Waiting n) = omega arith
one_if_waiting-most (Working n) = omega arith

module _ {T I : Type 0} {history : T → List I} {same_base : T → T → Type 0} {origin : Origin T} where
  -- the same words and views, written otherwise
  pub unmoved : (s : State (Option T) (Known T I)) → IsTurned history same_base origin s → (words : List ℕ) (views : List (Known T I)) → s.words ≡ words → s.views ≡ views
      → IsTurned history same_base origin (record { words = words; homes = s.homes; views = views })
  unmoved s kept words views is same =
      subst (λ (x : List ℕ × List (Known T I)). IsTurned history same_base origin (record { words = x.0; homes = s.homes; views = x.1 })) (λ i. (is i, same i)) kept

module _ {T I : Type 0} {history : T → List I} {same_base : T → T → Type 0} {origin : Origin T} (s : State (Option T) (Known T I)) (kept : IsTurned history same_base origin s) where
  -- at most 80 tickets wait
  pub few_wait : kept.drawn ≤ kept.next + 80
  few_wait =
      omega (arith, kept.line, kept.rooms, kept.few, sum_by-below waiters parts s.views (λ j u at. at_most u u.parts (kept.each j u at).1))
    where
      at_most : (u : Known T I) (n : ℕ) → (n ≡ 0 → IsSpent u) → waiters u ≤ n
      at_most u zero spent = let none_waits : waiters u ≡ 0 = ap one_if_waiting (spent refl).idle in omega arith
      at_most u (suc n) spent = omega (arith, one_if_waiting-most u.stage)

  -- the seat that works has the ticket that is served
  pub is_served_here : (id : ℕ) (v : Known T I) (t : ℕ) → get_elem? s.views id ≡ some v → v.stage ≡ Working t → (kept.served ≡ t) × (kept.served < kept.next)
  is_served_here id v t at works =
      let one = one_of (workers_with t) s.views id v at in
      let mine : workers_with t v ≡ 1 = ap (one_if_working_with t) works ∙ one_if_working_with-mine t in
      let range = one_if_between-some kept.served kept.next t (omega (arith, kept.working t)) in
      let order = kept.order in
      (omega arith, omega arith)

  -- while a seat works, no other does
  pub works_alone : (id : ℕ) (v : Known T I) (t : ℕ) → get_elem? s.views id ≡ some v → v.stage ≡ Working t
      → (j : ℕ) (u : Known T I) (t' : ℕ) → j ≢ id → get_elem? s.views j ≡ some u → u.stage ≡ Working t' → ⊥
  works_alone id v t at works j u t' other there works' =
      let mine = is_served_here id v t at works in
      let theirs = is_served_here j u t' there works' in
      let k : ℕ = kept.served in
      let w : Known T I = at_stage v Idle in
      let one : workers_with k v ≡ 1 = ap (one_if_working_with k) (works ∙ ap Working (sym mine.0)) ∙ one_if_working_with-mine k in
      let one' : workers_with k u ≡ 1 = ap (one_if_working_with k) (works' ∙ ap Working (sym theirs.0)) ∙ one_if_working_with-mine k in
      let step = sum_by-set_at (workers_with k) s.views id v w at in
      let left = one_of (workers_with k) (set s.views id w) j u (set_else s.views id j w other ∙ there) in
      omega (arith, kept.working k, one_if_between-in kept.served kept.next k (omega arith) mine.1)

  module _ (id : ℕ) (v : Known T I) (at : get_elem? s.views id ≡ some v) where
    -- what the other seats have
    others : sum_by parts (set s.views id spent_seat) + v.parts ≡ origin.seats
    others = omega (arith, sum_by-set_at parts s.views id v spent_seat at, kept.rooms)

    pub others_spent : v.parts ≡ origin.seats → (j : ℕ) (u : Known T I) → j ≢ id → get_elem? s.views j ≡ some u → u.parts ≡ 0
    others_spent whole j u other there = omega (arith, others, one_of parts (set s.views id spent_seat) j u (set_else s.views id j spent_seat other ∙ there))

    pub all_parts : ((j : ℕ) (u : Known T I) → j ≢ id → get_elem? s.views j ≡ some u → u.parts ≡ 0) → v.parts ≡ origin.seats
    all_parts none_left =
        omega (arith, others, sum_by-none parts (set s.views id spent_seat) (each_changed (λ (u : Known T I). u.parts ≡ 0) s.views id spent_seat refl none_left))
